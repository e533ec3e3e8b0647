use Rattle.std.proofs.Common.{◌+◌, ◌≡◌, ap, arith, ◌∙◌, length}
use Rattle.zp_model.specs.declared.state.State.TheVariants.{Tail}
use Rattle.zp_model.specs.Frames.{Frames, with_area}
use Rattle.zp_model.specs.Rows.{with_run}
use Rattle.zp_buddy.specs.FallingRuns.{AreTails, falling_run}
use Rattle.zp_buddy.specs.Runs.{AreClear, gives}
use Rattle.zp_zone.specs.Kept.{plain_of}
use Rattle.zp_zone.proofs.BlockSteps.{named}
use Rattle.zp_zone.proofs.FallingDrains.{drain_back, drain_clear, drain_kept, drain_tails, falling_given, lowest, lowest_place}
use Rattle.zp_zone.proofs.untied_zone.UntiedZone.free_falling.Goals.{After-at-first, After-give_run, After-pages-pages}
use Rattle.zp_zone.proofs.untied_zone.UntiedZone.free_falling.Goals as goal

-- the pages are clear
clear : (c : After-pages-pages) → AreClear c.self.inside.buddy (lowest c.self.inside.base c.args.pages.now) (length c.args.pages.now)
clear c =
    drain_clear c.args.self.now c.self.inside.name c.self.inside.buddy c.self.inside.base c.self.inside.min c.args.worker c.args.pages.now c.self.view_is
    (record { framed = c.pages-pages.ensures.framed; lawful = c.self.invariant.lawful }) c.requires.out c.requires.some c.requires.falling

-- the place of the lowest
start : (c : After-at-first) → c.at-first.result ≡ lowest c.self.inside.base c.args.pages.now
start c = lowest_place c.args.pages.now c.index-pages-count.result c.number.result c.self.inside.base c.at-first.result c.requires.some c.index-pages-count.is c.number.ensures.same c.at-first.ensures

pub overflow_cast-count : goal.overflow_cast-count
overflow_cast-count c = omega (arith, (clear (goal.at.overflow_cast-count c).After-pages-pages).inside, c.pages-pages.ensures.framed.pages, c.self.invariant.pages)

pub overflow_cast-count-2 : goal.overflow_cast-count-2
overflow_cast-count-2 c = omega (arith, (clear (goal.at.overflow_cast-count-2 c).After-pages-pages).inside, c.pages-pages.ensures.framed.pages, c.self.invariant.pages)

pub hold_run-requires-clause-clear : goal.hold_run-requires-clause-clear
hold_run-requires-clause-clear c = let d = goal.at.hold_run-requires-clause-clear c in rw (start d.After-at-first) (clear d.After-pages-pages)

pub give_run-requires-clause-clear : goal.give_run-requires-clause-clear
give_run-requires-clause-clear c =
    let d = goal.at.give_run-requires-clause-clear c in
    let x = clear d.After-pages-pages in
    rw (c.hold_run.ensures.after, start d.After-at-first) (record { inside = x.inside; free = x.free; aside = x.aside })

pub give_run-requires-clause-tails : goal.give_run-requires-clause-tails
give_run-requires-clause-tails c =
    let d = goal.at.give_run-requires-clause-tails c in
    let x : AreTails (record c.self.inside.buddy { states = with_run c.self.inside.buddy.states (lowest c.self.inside.base c.args.pages.now) (length c.args.pages.now) Tail }) (lowest c.self.inside.base c.args.pages.now) (lowest c.self.inside.base c.args.pages.now + length c.args.pages.now) =
    drain_tails c.args.self.now c.self.inside.name c.self.inside.buddy c.self.inside.base c.self.inside.min c.args.worker c.args.pages.now c.self.view_is
    (record { framed = c.pages-pages.ensures.framed; lawful = c.self.invariant.lawful }) c.requires.out c.requires.some c.requires.falling in
    rw (c.hold_run.ensures.after, start d.After-at-first) x

left : (c : After-give_run) → c.at-first.result ≡ lowest c.self.inside.base c.args.pages.now → c.give_run.new.self ≡ falling_given c.self.inside.buddy c.self.inside.base c.args.pages.now
left c e =
    c.give_run.ensures
    ∙ ap (λ (g : Frames). with_area g (gives g.area (falling_run c.at-first.result (length c.args.pages.now)))) c.hold_run.ensures.after
    ∙ ap (λ h. with_area (record c.self.inside.buddy { states = with_run c.self.inside.buddy.states h (length c.args.pages.now) Tail }) (gives c.self.inside.buddy.area (falling_run h (length c.args.pages.now)))) e

pub invariant_of-self : goal.invariant_of-self
invariant_of-self c =
    rw (left c (start (goal.at.invariant_of-self c).After-at-first))
    (drain_kept c.args.self.now c.self.inside.name c.self.inside.buddy c.self.inside.base c.self.inside.min c.args.worker c.args.pages.now c.self.view_is
    (record { framed = c.pages-pages.ensures.framed; lawful = c.self.invariant.lawful }) c.requires.out c.requires.some c.requires.falling c.self.invariant c.requires.distinct)

pub returns : goal.returns
returns c = record {
  after =
      ap (λ (g : Frames). named c.self.inside.name (plain_of g c.self.inside.base c.self.inside.min)) (left c (start (goal.at.returns c).After-at-first))
      ∙ drain_back c.args.self.now c.self.inside.name c.self.inside.buddy c.self.inside.base c.self.inside.min c.args.worker c.args.pages.now c.self.view_is
      (record { framed = c.pages-pages.ensures.framed; lawful = c.self.invariant.lawful }) c.requires.out c.requires.some c.requires.falling;
}
