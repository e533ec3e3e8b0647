use Rattle.std.proofs.Common.{arith}
use Rattle.zp_gate.proofs.Steps.{leaves}
use Rattle.zp_gate.proofs.try_lock.TryLock.leave.Goals as goal

pub store-requires : goal.store-requires
store-requires c =
    (c.requires.0, omega (arith, c.args.self.now.words), leaves c.args.self.now.table.shared.key c.args.self.now.table.shared.table_id c.args.self.now.table.shared.table_id.slots c.args.visitor c.args.self.now.slots c.requires)
