use Rattle.std.proofs.Common.{ℕ, subst, sym}
use Rattle.zp_gate.specs.GatedWorkers.{IsToldAt}
use Rattle.zonealloc.specs.Calls.{IsOfBoth}
use Rattle.zonealloc.proofs.requests.zonealloc_alloc_told.Goals as goal

pub returns-in-Ok-clause-told : goal.returns-in-Ok-clause-told
returns-in-Ok-clause-told c =
    let kind = c.in-Some-kind_of.kind in
    let mark = c.in-Some-mark_of.mark in
    let told = c.in-Ok.told in
    λ done. (
      kind,
      mark,
      told,
      c.in-Some-kind_of.ensures.some.0,
      c.in-Some-mark_of.ensures.some.0,
      sym c.number.ensures.same,
      sym c.origin_number.ensures,
      subst (λ (k : ℕ). IsOfBoth (IsToldAt c.args.zone k kind mark told) c.args.worker.now.slot.value c.ask_told.new.worker.slot.value) c.in-Some.ensures.some.0 c.in-Ok.ensures.told,
    )
