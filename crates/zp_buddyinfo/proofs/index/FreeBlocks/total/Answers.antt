use Rattle.std.proofs.Common.{arith, ap, sum}
use Rattle.zp_buddyinfo.proofs.Made.{sum-le-pages}
use Rattle.zp_buddyinfo.proofs.index.FreeBlocks.total.Goals as goal

pub sum_of-requires : goal.sum_of-requires
sum_of-requires c = omega (arith, c.self.invariant.pages, ap sum c.as_slice.ensures.value, sum-le-pages c.self.inside.by_order.items)
