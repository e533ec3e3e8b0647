use Rattle.std.proofs.Common.{All, Global, take}
use Rattle.std.specs.Arc.{arc_value}
use Rattle.std.specs.declared.sync.Arc.{Arc}
use Rattle.zp_gate.specs.declared.try_lock.TryLock.{TryLock}
use Rattle.zp_gate.specs.GatedRows.{HasNoWorker, lock_key}
use Rattle.zp_gate.proofs.gated_row.GatedRow.has_worker.Given as goal

abbrev pub invariant-loop-lock : goal.invariant-loop-lock
invariant-loop-lock l = All (λ (a : Arc TryLock Global). HasNoWorker (lock_key (arc_value a))) (take l.lock-index l.lock-items)
