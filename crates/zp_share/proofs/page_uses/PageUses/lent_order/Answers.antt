use Rattle.std.proofs.Common.{arith}
use Rattle.zp_share.proofs.RunUses.{page_not}
use Rattle.zp_share.proofs.page_uses.PageUses.lent_order.Goals as goal

pub returns-clause-none : goal.returns-clause-none
returns-clause-none c = page_not c.args.self.now.uses c.args.at (λ k lt. c.orders.invariant.none k (omega (arith, lt)))
