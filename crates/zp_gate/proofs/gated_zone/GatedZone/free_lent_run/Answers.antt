use Rattle.std.proofs.Common.{ap, sym, ◌∙◌}
use Rattle.zp_model.specs.Zone.{workers_of}
use Rattle.zp_zone.specs.Seats.{ZoneState}
use Rattle.zp_gate.proofs.Keeping.{workers_stay}
use Rattle.zp_gate.proofs.gated_zone.GatedZone.free_lent_run.Goals as goal

pub invariant_of-self : goal.invariant_of-self
invariant_of-self c =
    (c.self.invariant.0 ∙ ap (λ (z : ZoneState). workers_of z.plain) (sym c.deref_mut.ensures.value) ∙ sym (workers_stay _ _ _ _ _ _ c.free_lent_run-answer.ensures.section), c.self.invariant.1)
