use Rattle.std.proofs.Common.{ℕ, refl, ◌≡◌, ◌-◌, ◌<◌, ◌^◌, ap, arith, ◌∙◌, get_or, length}
use Rattle.std.proofs.lemmas.Nat.{pow_pos}
use Rattle.zp_model.specs.declared.state.State.TheVariants.{Tail}
use Rattle.zp_model.specs.Block.{head}
use Rattle.zp_model.specs.Frames.{Frames, IsClear, given}
use Rattle.zp_model.specs.Rows.{with_run}
use Rattle.zp_model.proofs.Heads.{lt_head}
use Rattle.zp_zone.specs.Kept.{plain_of}
use Rattle.zp_zone.proofs.BlockSteps.{named}
use Rattle.zp_zone.proofs.DrainParts.{first_place, run_back, run_clear, run_given, run_kept_back}
use Rattle.zp_zone.proofs.untied_zone.UntiedZone.free_part.Goals.{After-number-2, After-head-head, After-give}
use Rattle.zp_zone.proofs.untied_zone.UntiedZone.free_part.Goals as goal

-- the run around the first page is clear
clear : (c : After-number-2) → IsClear c.self.inside.buddy (head (get_or c.args.pages.now 0 0 - c.self.inside.base) c.args.order) c.args.order
clear c =
    run_clear c.args.self.now c.self.inside.name c.self.inside.buddy c.self.inside.base c.self.inside.min c.args.worker c.args.order c.args.pages.now c.self.view_is
    (record { framed = c.pages-pages.ensures.framed; lawful = c.self.invariant.lawful }) c.requires.within c.requires.out c.requires.room c.requires.turned

pub at-first-requires : goal.at-first-requires
at-first-requires c =
    let first : ℕ = get_or c.args.pages.now 0 0 - c.self.inside.base in
    let some : 0 < length c.args.pages.now = omega (arith, c.requires.room, pow_pos c.args.order) in
    let place = first_place c.args.pages.now c.index-pages-0-2.result c.number-2.result c.self.inside.base _ some c.index-pages-0-2.is c.number-2.ensures.same refl in
    omega (arith, place, lt_head first c.args.order, (clear c).block.inside, c.pages-pages.ensures.framed.pages, c.self.invariant.pages)

start : (c : After-head-head) → c.head-head.result ≡ head (get_or c.args.pages.now 0 0 - c.self.inside.base) c.args.order
start c =
    let some : 0 < length c.args.pages.now = omega (arith, c.requires.room, pow_pos c.args.order) in
    c.head-head.ensures
    ∙ ap (λ n. head n c.args.order) (first_place c.args.pages.now c.index-pages-0-2.result c.number-2.result c.self.inside.base c.at-first.result some c.index-pages-0-2.is c.number-2.ensures.same c.at-first.ensures)

pub hold_run-requires-clause-clear : goal.hold_run-requires-clause-clear
hold_run-requires-clause-clear c =
    let d = goal.at.hold_run-requires-clause-clear c in
    let x = clear d.After-number-2 in
    rw (start d.After-head-head, c.pages.ensures.pages) (record { inside = x.block.inside; free = x.free; aside = x.aside })

pub give-requires : goal.give-requires
give-requires c =
    let d = goal.at.give-requires c in
    let x = clear d.After-number-2 in
    rw (c.hold_run.ensures.after, start d.After-head-head) (record { block = x.block; free = x.free; aside = x.aside })

left : (c : After-give) (e : c.head-head.result ≡ head (get_or c.args.pages.now 0 0 - c.self.inside.base) c.args.order) →
    c.give.new.self ≡ run_given c.self.inside.buddy c.self.inside.base c.args.order c.args.pages.now
left c e =
    c.give.ensures ∙ ap (λ g. given g c.head-head.result c.args.order) c.hold_run.ensures.after
    ∙ ap (λ n. let g : Frames = record c.self.inside.buddy { states = with_run c.self.inside.buddy.states c.head-head.result n Tail } in given g c.head-head.result c.args.order) c.pages.ensures.pages
    ∙ ap (λ h. let g : Frames = record c.self.inside.buddy { states = with_run c.self.inside.buddy.states h (2 ^ c.args.order) Tail } in given g h c.args.order) e

pub invariant_of-self : goal.invariant_of-self
invariant_of-self c =
    rw (left c (start (goal.at.invariant_of-self c).After-head-head))
    (run_kept_back c.args.self.now c.self.inside.name c.self.inside.buddy c.self.inside.base c.self.inside.min c.args.worker c.args.order c.args.pages.now c.self.view_is
    (record { framed = c.pages-pages.ensures.framed; lawful = c.self.invariant.lawful }) c.requires.within c.requires.out c.requires.room c.requires.turned c.self.invariant c.requires.distinct)

pub returns : goal.returns
returns c = record {
  after =
      ap (λ (g : Frames). named c.self.inside.name (plain_of g c.self.inside.base c.self.inside.min)) (left c (start (goal.at.returns c).After-head-head))
      ∙ run_back c.args.self.now c.self.inside.name c.self.inside.buddy c.self.inside.base c.self.inside.min c.args.worker c.args.order c.args.pages.now c.self.view_is
      (record { framed = c.pages-pages.ensures.framed; lawful = c.self.invariant.lawful }) c.requires.within c.requires.out c.requires.room c.requires.turned;
}
