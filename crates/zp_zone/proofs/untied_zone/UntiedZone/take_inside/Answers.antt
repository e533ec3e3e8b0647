use Rattle.std.proofs.Common.{◌+◌, ◌^◌, ◌≤◌, ◌≡◌, ◌<◌, ◌∙◌, ap, refl, sym, length}
use Rattle.zp_model.specs.Area.{kind_at}
use Rattle.zp_model.specs.Block.{IsBlock}
use Rattle.zp_model.specs.Frames.{Frames, with_area}
use Rattle.zp_model.specs.PageblockType.{noted_type}
use Rattle.zp_model.specs.Runs.{IsFreeRun, leave_run, run_taken}
use Rattle.zp_model.specs.Zone.{workers_of}
use Rattle.zp_zone.specs.Kept.{plain_of}
use Rattle.zp_zone.specs.NamedZone.{NamedZone}
use Rattle.zp_zone.specs.RunsAt.{IsNotedRun}
use Rattle.zp_zone.proofs.BlockSteps.{IsAsked, named}
use Rattle.zp_zone.proofs.RunsNoted.{block_noted}
use Rattle.zp_zone.proofs.RunsTaken.{left_aside, run_kept, run_out}
use Rattle.zp_zone.proofs.untied_zone.UntiedZone.take_inside.Goals.{After-hold, After-pages-pages}
use Rattle.zp_zone.proofs.untied_zone.UntiedZone.take_inside.Goals as goal

pub take_inside-requires-clause-block : goal.take_inside-requires-clause-block
take_inside-requires-clause-block c = rw (← c.self.view_is) at c.requires.block

pub take_inside-requires-clause-beside : goal.take_inside-requires-clause-beside
take_inside-requires-clause-beside c = λ k noted. (rw (← c.self.view_is) at c.requires.beside) k ((c.pages-pages.ensures.framed.noted c.args.at k).0 noted)

asked : (c : After-pages-pages) → IsAsked c.self.inside.buddy c.self.inside.base c.self.inside.min
asked c = record { framed = c.pages-pages.ensures.framed; lawful = c.self.invariant.lawful }

inside : (c : After-hold) → c.args.at + 2 ^ c.args.order ≤ length c.self.inside.buddy.area.free
inside c = let x : IsBlock c.self.inside.buddy.area.largest (length c.self.inside.buddy.area.free) c.args.at c.args.order = rw (← c.self.view_is) at c.requires.block in x.inside

free : (c : After-hold) → IsFreeRun c.self.inside.buddy.area c.args.at (2 ^ c.args.order)
free c = sym c.if-not-take_inside.ensures.when

left : (c : After-hold) → c.take_inside.new.self ≡ with_area c.self.inside.buddy (leave_run c.self.inside.buddy.area c.args.at (2 ^ c.args.order))
left c = c.if-not-take_inside.ensures.after refl

noted : (c : After-hold) →
    IsNotedRun c.take_inside.new.self c.hold.new.self c.args.worker (λ g. noted_type (kind_at c.take_inside.new.self.area.largest c.take_inside.new.self.area.kinds g)) c.args.at (2 ^ c.args.order)
noted c =
    let f : Frames = c.self.inside.buddy in
    let f2 : Frames = c.take_inside.new.self in
    rw (c.hold.ensures.after, c.noted-noted.ensures, c.type_of.ensures)
    (block_noted f2 c.args.worker (λ g. noted_type (kind_at f2.area.largest f2.area.kinds g)) c.args.at (2 ^ c.args.order) c.args.order (c.if-not-take_inside.ensures.clear refl) refl
    (left_aside f f2 c.self.inside.base c.self.inside.min c.args.at (2 ^ c.args.order) (asked (goal.at.After-hold c).After-pages-pages) (inside c) (free c) (left c) c.self.invariant.aside))

pub invariant_of-self-2 : goal.invariant_of-self-2
invariant_of-self-2 c =
    let now = (goal.at.invariant_of-self-2 c).After-hold in
    let f : Frames = c.self.inside.buddy in
    let workers : c.args.worker < workers_of (plain_of f c.self.inside.base c.self.inside.min) = rw (← c.self.view_is) at c.requires.worker in
    run_kept f c.take_inside.new.self c.self.inside.base c.self.inside.min c.args.at (2 ^ c.args.order) (asked (goal.at.invariant_of-self-2 c).After-pages-pages) (inside now) (free now) (left now)
    c.hold.new.self c.args.worker (noted now) c.self.inside.name c.self.invariant workers

pub returns-clause-taken : goal.returns-clause-taken
returns-clause-taken c = λ _.
    let now = (goal.at.returns-clause-taken c).After-hold in
    ap (named c.self.inside.name)
    (run_out c.self.inside.buddy c.take_inside.new.self c.self.inside.base c.self.inside.min c.args.at (2 ^ c.args.order) (asked (goal.at.returns-clause-taken c).After-pages-pages) (inside now)
    (free now) (left now) c.hold.new.self c.args.worker (noted now))
    ∙ ap (λ (v : NamedZone). let y : NamedZone = record v { plain = run_taken v.plain c.args.worker c.args.at (2 ^ c.args.order) } in y) c.self.view_is
