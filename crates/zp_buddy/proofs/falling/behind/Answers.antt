use Rattle.std.proofs.Common.{arith}
use Rattle.zp_buddy.proofs.LastOrders.{aligned_past}
use Rattle.zp_buddy.proofs.falling.behind.Goals as goal

pub returns-clause-double : goal.returns-clause-double
returns-clause-double c =
    let odd = rw c.pages-else-end-from.ensures.pages at c.if-end-pages-eq0.false in
    aligned_past c.args.end c.args.order c.requires.last.aligned (omega (arith, odd))
