use Rattle.std.proofs.Common.{arith}
use Rattle.zp_open_gate.proofs.Steps.{comes, enters}
use Rattle.zp_open_gate.proofs.try_lock.TryLock.enter.Goals as goal

pub load_new_seat-visitor-requires : goal.load_new_seat-visitor-requires
load_new_seat-visitor-requires c = (omega (arith, c.args.self.now.words), comes c.args.self.now.table.shared.key c.args.self.now.table.shared.table_id.slots)

pub compare_exchange-requires : goal.compare_exchange-requires
compare_exchange-requires c =
    (c.load_new_seat-visitor.ensures.0, omega (arith, c.args.self.now.words), enters c.args.self.now.table.shared.key c.args.self.now.table.shared.table_id.slots c.load_new_seat-visitor.result.1.id c.load_new_seat-visitor.result.1.me)
