use Rattle.std.proofs.Common.{◌∙◌, ap, sym}
use Rattle.zp_model.specs.Choose.{origin}
use Rattle.zp_zone.specs.Seats.{ZoneState}
use Rattle.zp_gate.proofs.Told.{section_origin}
use Rattle.zp_gate.proofs.gated_zone.GatedZone.alloc_told.Goals as goal

-- what was granted came from somewhere
pub unreachable-requires : goal.unreachable-requires
unreachable-requires c =
    let from = section_origin c.args.order c.args.kind c.args.mark c.in_ok-page.page _ _ _ _ c.in_ok-page.ensures.0 in
    c.in_default.not-Some from.0 (c.origin-origin.ensures.answer ∙ ap (λ (z : ZoneState). origin z.plain.area c.args.order c.args.kind) (sym c.origin-origin.ensures.same) ∙ from.1)
