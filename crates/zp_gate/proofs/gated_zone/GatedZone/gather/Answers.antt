use Rattle.zp_gate.proofs.gated_zone.GatedZone.gather.Goals as goal

pub gather_zone-requires-clause-crew : goal.gather_zone-requires-clause-crew
gather_zone-requires-clause-crew c =
    rw (c.deref_mut.ensures.value, ← c.self.invariant.0, c.as_mut_slice.ensures.value) (rw c.as_slice.ensures.value at (c.is_crew.ensures.yes c.if-not-is_crew.false))

pub returns-then-not-is_crew-clause-none : goal.returns-then-not-is_crew-clause-none
returns-then-not-is_crew-clause-none c = λ crew. c.is_crew.ensures.no c.if-not-is_crew.true (rw (c.as_slice.ensures.value, c.self.invariant.0) (rw (← c.self.view_is) at crew))

pub returns-clause-some : goal.returns-clause-some
returns-clause-some c =
    let told = c.gather_zone.ensures in
    rw (← c.self.view_is, ← c.deref_mut.ensures.value, ← c.as_mut_slice.ensures.value) (record {
      crew = rw (c.deref_mut.ensures.value, ← c.self.invariant.0, c.as_mut_slice.ensures.value) (rw c.as_slice.ensures.value at (c.is_crew.ensures.yes c.if-not-is_crew.false));
      agree = told.agree;
      totals = told.totals;
      adds_up = told.adds_up;
      history = rw (c.deref_mut.ensures.value, ← c.deref.ensures) c.history.ensures;
    })
