use Rattle.std.proofs.Common.{arith, sym, ◌∙◌}
use Rattle.zp_buddyinfo.proofs.Made.{found_here, found_below}
use Rattle.zp_buddyinfo.proofs.index.largest_of.Goals as goal

pub returns-then-blocks-order-gt0-clause-largest : goal.returns-then-blocks-order-gt0-clause-largest
returns-then-blocks-order-gt0-clause-largest c =
    sym (c.loop-order.invariant.same ∙ found_here c.args.blocks.now c.loop-order.order c.loop-order-test.true c.if-blocks-order-gt0.true)

pub loop-order-preserved : goal.loop-order-preserved
loop-order-preserved c = record {
  inside = omega arith;
  same = c.loop-order.invariant.same ∙ found_below c.args.blocks.now c.loop-order.order c.loop-order-test.true c.if-blocks-order-gt0.false;
}
