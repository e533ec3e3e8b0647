use Rattle.std.proofs.Common.{ℕ, ◌≡◌, ◌<◌, ◌∙◌, List, length, get_or, zero-add, ap, subst, arith}
use Rattle.std.specs.Prelude.{Option}
use Rattle.std.proofs.lemmas.List.FromFn.{get_or-map-range_with_len, length-map-range_with_len}
use Rattle.zp_model.specs.declared.origin.Origin.{Origin}
use Rattle.zp_share.specs.Crews.{CrewState}
use Rattle.zp_kernel.specs.declared.event_counts.EventCounts.{EventCounts}
use Rattle.zp_kernel.specs.declared.event_counts.Happening.TheVariants as happened
use Rattle.zp_kernel.specs.Counts.{noted, pages_out}
use Rattle.zp_kernel.specs.Crews.{IsCrewDone, asked_by, origin_of}
use Rattle.zp_kernel.proofs.Handing.{asked_ok}
use Rattle.zp_kernel.proofs.handing_out.ask.Goals as goal

-- each zone has said where the block would come from
many : (c : goal.After-deref) → length c.deref.result.now ≡ length c.args.state.now.crew.zones
many c =
    let crew = c.args.state.now.crew in
    let f : ℕ → Option Origin = origin_of c.args.by c.args.order c.args.kind crew in
    ap length (c.deref.ensures.0 ∙ c.origins-origins.ensures.origins) ∙ length-map-range_with_len f 0 (length crew.zones)

pub offset_bounds-deref-place : goal.offset_bounds-deref-place
offset_bounds-deref-place c = omega (arith, c.in-Ok.ensures.place, c.requires.zone, many c, c.deref.ensures.1)

pub bounds-deref-place : goal.bounds-deref-place
bounds-deref-place c = omega (arith, c.in-Ok.ensures.place, c.requires.zone, many c)

pub returns-in-Ok-clause-after : goal.returns-in-Ok-clause-after
returns-in-Ok-clause-after c =
    let i = c.in-Ok.lent.zone in
    let crew = c.args.state.now.crew in
    asked_ok c.args.by c.args.block.now c.args.order c.args.top c.pages.result c.args.kind c.args.state.now c.alloc.result c.in-Ok.lent c.alloc.new.self c.set.new.self _ c.note_out.new.self
    c.requires.order
    (subst (λ (y : CrewState). IsCrewDone (asked_by c.args.by c.args.order c.args.kind c.args.top y) c.alloc.result c.alloc.new.self) c.origins-origins.ensures.same c.alloc.ensures.done)
    c.in-Ok.is c.pages.ensures.pages c.set.ensures
    (ap (λ (xs : List (Option Origin)). get_or xs i _) (c.deref.ensures.0 ∙ c.origins-origins.ensures.origins)
    ∙ get_or-map-range_with_len (origin_of c.args.by c.args.order c.args.kind crew) 0 (length crew.zones) i i _ (omega (arith, c.in-Ok.ensures.place, c.requires.zone)) (zero-add i))
    (c.note_out.ensures ∙ ap (λ (x : EventCounts). pages_out c.pages.result x) (c.note.ensures ∙ ap (noted happened.Given) c.note_origin.ensures))
