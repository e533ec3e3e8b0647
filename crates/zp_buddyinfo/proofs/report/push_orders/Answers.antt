use Rattle.std.proofs.Common.{arith, ap, length}
use Rattle.zp_buddyinfo.proofs.ZoneTexts.{order_more, all_orders}
use Rattle.zp_buddyinfo.proofs.report.push_orders.Goals as goal

pub loop-order-preserved : goal.loop-order-preserved
loop-order-preserved c =
    order_more c.args.style c.args.blocks.now c.loop-order.order _ _ _ (omega (arith, c.loop-order-test.true, ap length c.by_order-order-end.ensures.blocks)) c.loop-order.invariant c.in_ok-push_order.ensures

pub returns : goal.returns
returns c =
    all_orders c.args.style c.args.blocks.now c.loop-order.order _ _ (omega (arith, c.loop-order-test.false, ap length c.by_order-order-end.ensures.blocks)) c.loop-order.invariant
