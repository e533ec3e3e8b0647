use Rattle.std.proofs.Common.{◌+◌, ◌^◌, ◌≤◌, ◌≡◌, ◌<◌, ◌∙◌, ap, refl, length}
use Rattle.zp_model.specs.Area.{kind_at}
use Rattle.zp_model.specs.Frames.{Frames, with_area}
use Rattle.zp_model.specs.PageblockType.{noted_type}
use Rattle.zp_model.specs.Runs.{leave_run, run_taken}
use Rattle.zp_model.specs.Zone.{workers_of}
use Rattle.zp_zone.specs.Kept.{plain_of}
use Rattle.zp_zone.specs.NamedZone.{NamedZone}
use Rattle.zp_zone.specs.RunsAt.{IsNotedRun}
use Rattle.zp_zone.proofs.BlockSteps.{IsAsked, named}
use Rattle.zp_zone.proofs.RunsNoted.{block_noted}
use Rattle.zp_zone.proofs.RunsTaken.{block_left, left_aside, run_kept, run_out}
use Rattle.zp_zone.proofs.untied_zone.UntiedZone.take_low.Goals.{After-hold, After-pages-pages}
use Rattle.zp_zone.proofs.untied_zone.UntiedZone.take_low.Goals as goal

pub take_low_part-requires-clause-free : goal.take_low_part-requires-clause-free
take_low_part-requires-clause-free c = (c.pages-pages.ensures.framed.noted c.args.at c.args.found).1 (rw (← c.self.view_is) at c.requires.free)

asked : (c : After-pages-pages) → IsAsked c.self.inside.buddy c.self.inside.base c.self.inside.min
asked c = record { framed = c.pages-pages.ensures.framed; lawful = c.self.invariant.lawful }

inside : (c : After-hold) → c.args.at + 2 ^ c.args.order ≤ length c.self.inside.buddy.area.free
inside c = c.take_low_part.ensures.block.inside

left : (c : After-hold) → c.take_low_part.new.self ≡ with_area c.self.inside.buddy (leave_run c.self.inside.buddy.area c.args.at (2 ^ c.args.order))
left c = block_left c.self.inside.buddy c.take_low_part.new.self c.args.at (2 ^ c.args.order) c.args.order c.take_low_part.ensures.after refl

noted : (c : After-hold) →
    IsNotedRun c.take_low_part.new.self c.hold.new.self c.args.worker (λ g. noted_type (kind_at c.take_low_part.new.self.area.largest c.take_low_part.new.self.area.kinds g)) c.args.at (2 ^ c.args.order)
noted c =
    let f : Frames = c.self.inside.buddy in
    let f2 : Frames = c.take_low_part.new.self in
    rw (c.hold.ensures.after, c.noted-noted.ensures, c.type_of.ensures)
    (block_noted f2 c.args.worker (λ g. noted_type (kind_at f2.area.largest f2.area.kinds g)) c.args.at (2 ^ c.args.order) c.args.order c.take_low_part.ensures.clear refl
    (left_aside f f2 c.self.inside.base c.self.inside.min c.args.at (2 ^ c.args.order) (asked (goal.at.After-hold c).After-pages-pages) (inside c) c.take_low_part.ensures.free (left c) c.self.invariant.aside))

pub invariant_of-self : goal.invariant_of-self
invariant_of-self c =
    let now = (goal.at.invariant_of-self c).After-hold in
    let f : Frames = c.self.inside.buddy in
    let workers : c.args.worker < workers_of (plain_of f c.self.inside.base c.self.inside.min) = rw (← c.self.view_is) at c.requires.worker in
    run_kept f c.take_low_part.new.self c.self.inside.base c.self.inside.min c.args.at (2 ^ c.args.order) (asked (goal.at.invariant_of-self c).After-pages-pages) (inside now) c.take_low_part.ensures.free (left now)
    c.hold.new.self c.args.worker (noted now) c.self.inside.name c.self.invariant workers

pub returns-clause-free : goal.returns-clause-free
returns-clause-free c = rw (← c.self.view_is) c.take_low_part.ensures.free

pub returns-clause-after : goal.returns-clause-after
returns-clause-after c =
    let now = (goal.at.returns-clause-after c).After-hold in
    ap (named c.self.inside.name)
    (run_out c.self.inside.buddy c.take_low_part.new.self c.self.inside.base c.self.inside.min c.args.at (2 ^ c.args.order) (asked (goal.at.returns-clause-after c).After-pages-pages) (inside now)
    c.take_low_part.ensures.free (left now) c.hold.new.self c.args.worker (noted now))
    ∙ ap (λ (v : NamedZone). let y : NamedZone = record v { plain = run_taken v.plain c.args.worker c.args.at (2 ^ c.args.order) } in y) c.self.view_is
