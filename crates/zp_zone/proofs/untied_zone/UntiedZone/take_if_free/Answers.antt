use Rattle.std.proofs.Common.{◌+◌, ◌^◌, ◌≤◌, ◌≡◌, ◌<◌, ◌∙◌, ap, sym, arith, length}
use Rattle.zp_model.specs.Area.{kind_at}
use Rattle.zp_model.specs.Frames.{Frames, with_area}
use Rattle.zp_model.specs.PageblockType.{noted_type}
use Rattle.zp_model.specs.Runs.{IsFreeRun, leave_run, run_taken}
use Rattle.zp_model.specs.Zone.{pages_of, workers_of}
use Rattle.zp_model.proofs.Cuts.{fitting}
use Rattle.zp_zone.specs.Kept.{plain_of}
use Rattle.zp_zone.specs.NamedZone.{NamedZone}
use Rattle.zp_zone.specs.RunsAt.{IsNotedRun}
use Rattle.zp_zone.proofs.BlockSteps.{IsAsked, named}
use Rattle.zp_zone.proofs.RunsNoted.{block_noted}
use Rattle.zp_zone.proofs.RunsTaken.{block_left, left_aside, run_kept, run_out}
use Rattle.zp_zone.proofs.untied_zone.UntiedZone.take_if_free.Goals.{After-hold}
use Rattle.zp_zone.proofs.untied_zone.UntiedZone.take_if_free.Goals as goal

asked : (c : After-hold) → IsAsked c.self.inside.buddy c.self.inside.base c.self.inside.min
asked c = record { framed = c.pages-pages.ensures.framed; lawful = c.self.invariant.lawful }

-- the block is the run
size : (c : After-hold) → 2 ^ c.in-Some.found ≡ c.args.pages
size c = omega (arith, c.if-pages.true, c.pages.ensures.pages)

free : (c : After-hold) → IsFreeRun c.self.inside.buddy.area c.args.at c.args.pages
free c = rw (size c) at c.take_whole.ensures.free

inside : (c : After-hold) → c.args.at + c.args.pages ≤ length c.self.inside.buddy.area.free
inside c = rw (size c) at c.take_whole.ensures.block.inside

left : (c : After-hold) → c.take_whole.new.self ≡ with_area c.self.inside.buddy (leave_run c.self.inside.buddy.area c.args.at c.args.pages)
left c = block_left c.self.inside.buddy c.take_whole.new.self c.args.at c.args.pages c.in-Some.found c.take_whole.ensures.after (size c)

noted : (c : After-hold) →
    IsNotedRun c.take_whole.new.self c.hold.new.self c.args.worker (λ g. noted_type (kind_at c.take_whole.new.self.area.largest c.take_whole.new.self.area.kinds g)) c.args.at c.args.pages
noted c =
    let f : Frames = c.self.inside.buddy in
    let f2 : Frames = c.take_whole.new.self in
    rw (c.hold.ensures.after, c.noted-noted.ensures, c.type_of.ensures)
    (block_noted f2 c.args.worker (λ g. noted_type (kind_at f2.area.largest f2.area.kinds g)) c.args.at c.args.pages c.in-Some.found c.take_whole.ensures.clear (size c)
    (left_aside f f2 c.self.inside.base c.self.inside.min c.args.at c.args.pages (asked c) (inside c) (free c) (left c) c.self.invariant.aside))

pub invariant_of-self : goal.invariant_of-self
invariant_of-self c =
    let now = (goal.at.invariant_of-self c).After-hold in
    let f : Frames = c.self.inside.buddy in
    let workers : c.args.worker < workers_of (plain_of f c.self.inside.base c.self.inside.min) = rw (← c.self.view_is) at c.requires.worker in
    run_kept f c.take_whole.new.self c.self.inside.base c.self.inside.min c.args.at c.args.pages (asked now) (inside now) (free now) (left now) c.hold.new.self c.args.worker (noted now)
    c.self.inside.name c.self.invariant workers

pub returns-then-pages-clause-when : goal.returns-then-pages-clause-when
returns-then-pages-clause-when c = rw (← c.self.view_is) (sym (free (goal.at.returns-then-pages-clause-when c).After-hold))

pub returns-then-pages-clause-taken : goal.returns-then-pages-clause-taken
returns-then-pages-clause-taken c = λ _.
    let now = (goal.at.returns-then-pages-clause-taken c).After-hold in
    ap (named c.self.inside.name)
    (run_out c.self.inside.buddy c.take_whole.new.self c.self.inside.base c.self.inside.min c.args.at c.args.pages (asked now) (inside now) (free now) (left now) c.hold.new.self c.args.worker (noted now))
    ∙ ap (λ (v : NamedZone). let y : NamedZone = record v { plain = run_taken v.plain c.args.worker c.args.at c.args.pages } in y) c.self.view_is

pub take_low-requires-clause-free : goal.take_low-requires-clause-free
take_low-requires-clause-free c = rw (← c.self.view_is) ((c.pages-pages.ensures.framed.noted c.args.at c.in-Some.found).0 c.in-Some.ensures.some)

pub take_inside-requires-clause-block : goal.take_inside-requires-clause-block
take_inside-requires-clause-block c =
    let x = fitting c.largest-in_default.result c.args.at c.args.pages (omega (arith, c.requires.some)) in
    let room : c.args.at + 2 ^ c.fitting_order-order-in_default.result ≤ pages_of c.args.self.now.plain = omega (arith, c.requires.inside, c.if-pages-3.true, c.pages-in_default.ensures.pages) in
    rw (← c.self.view_is) (record {
      order = omega (arith, x.order, c.fitting_order-order-in_default.ensures, c.largest-in_default.ensures);
      aligned = rw c.fitting_order-order-in_default.ensures x.aligned;
      inside = rw (← c.self.view_is) at room;
    })
