use Rattle.std.proofs.Common.{All, Global, ap, map, subst, ◌∙◌}
use Rattle.std.proofs.lemmas.List.{take_all}
use Rattle.std.proofs.lemmas.List.Elements.{All-map, All-more}
use Rattle.std.specs.Arc.{arc_value}
use Rattle.std.specs.declared.sync.Arc.{Arc}
use Rattle.zp_gate.specs.GatedZones.{GateKey, no_gate}
use Rattle.zp_gate.specs.declared.try_lock.TryLock.{TryLock}
use Rattle.zp_gate.specs.GatedRows.{HasNoWorker, lock_key}
use Rattle.zp_gate.proofs.gated_row.GatedRow.has_worker.Goals as goal

abbrev key : Arc TryLock Global → GateKey
key a = lock_key (arc_value a)

pub loop-lock-preserved : goal.loop-lock-preserved
loop-lock-preserved c =
    let here = subst (λ (l : TryLock). HasNoWorker (lock_key l)) c.deref.ensures (c.in-Ok.field-0.totals, c.in-Ok.field-0.visit, c.in-Ok.ensures.ok) in
    let P = λ (a : Arc TryLock Global). HasNoWorker (key a) in
    All-more P c.deref-lock-items.result.now c.loop-lock.lock-index c.lock-item.result c.loop-lock-test.true c.loop-lock.invariant (subst P c.lock-item.is here)

pub returns : goal.returns
returns c = λ _ i lt.
    let items = c.deref-lock-items.result.now in
    let all = subst (All (λ (a : Arc TryLock Global). HasNoWorker (key a))) (take_all c.loop-lock.lock-index items c.loop-lock-test.false) c.loop-lock.invariant in
    subst (All HasNoWorker) (ap (map key) c.deref-lock-items.ensures.value ∙ c.self.view_is) (All-map HasNoWorker key items all) i no_gate lt
