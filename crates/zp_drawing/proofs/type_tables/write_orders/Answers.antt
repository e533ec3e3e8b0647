use Rattle.std.proofs.Common.{arith, ◌+◌}
use Rattle.zp_drawing.proofs.TableTexts.{all_orders, order_more}
use Rattle.zp_drawing.proofs.type_tables.write_orders.Goals as goal

pub loop-order-preserved : goal.loop-order-preserved
loop-order-preserved g c =
    order_more (c.args.largest + 1) c.loop-order.order c.from.result _ _ _ (omega arith) c.from.ensures c.loop-order.invariant
    c.in_ok-write_number.ensures

pub returns : goal.returns
returns g c = all_orders (c.args.largest + 1) c.loop-order.order _ _ (omega arith) c.loop-order.invariant
