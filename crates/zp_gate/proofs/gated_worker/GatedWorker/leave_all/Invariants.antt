use Rattle.std.proofs.Common.{◌≡◌, ◌+◌, length}
use Rattle.zp_gate.specs.GatedWorkers.{HasLeftDownTo}
use Rattle.zp_gate.proofs.gated_worker.GatedWorker.leave_all.Given as goal

abbrev pub invariant-loop : goal.invariant-loop
invariant-loop l = record { left : HasLeftDownTo (length l.self.shares) l.fn.self l.self; many : length l.self.shares + l.counter ≡ length l.fn.self.shares }
