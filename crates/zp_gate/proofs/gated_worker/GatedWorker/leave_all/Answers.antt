use Rattle.std.proofs.Common.{◌<◌, ap, arith, length}
use Rattle.zp_gate.specs.GatedWorkers.{WorkerState}
use Rattle.zp_gate.proofs.Leaving.{one_fewer, one_less}
use Rattle.zp_gate.proofs.gated_worker.GatedWorker.leave_all.Goals as goal

pub loop-preserved : goal.loop-preserved
loop-preserved c =
    let was = c.loop.invariant in
    let last = c.leave.ensures.left c.if-not-leave.false in
    let long = ap (λ (v : WorkerState). length v.shares) c.self.view_is in
    let some : 0 < length c.loop.self.shares = omega (arith, was.many, c.loop-test.true, c.len-end.ensures, long) in
    let fewer = one_fewer c.loop.self c.leave.new.self some last in
    record { left = one_less c.args.self.now c.loop.self c.leave.new.self was.left some last; many = omega (arith, was.many, fewer) }
