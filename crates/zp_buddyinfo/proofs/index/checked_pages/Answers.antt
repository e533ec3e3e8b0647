use Rattle.std.proofs.Common.{arith, sym, refl}
use Rattle.zp_buddyinfo.proofs.Made.{one_more, one_more-le, suitable_none}
use Rattle.zp_buddyinfo.proofs.index.checked_pages.Goals as goal

pub loop-order-init : goal.loop-order-init
loop-order-init c = record { inside = omega arith; pages = sym (suitable_none c.args.blocks.now _ refl); small = omega arith }

pub returns-then-count-ge-PAGE_LIMIT-clause-none : goal.returns-then-count-ge-PAGE_LIMIT-clause-none
returns-then-count-ge-PAGE_LIMIT-clause-none c =
    omega (arith, one_more-le c.args.blocks.now c.loop-order.order c.loop-order.pages (omega arith) c.loop-order.invariant.inside c.loop-order.invariant.pages)

pub returns-then-pages-ge-PAGE_LIMIT-clause-none : goal.returns-then-pages-ge-PAGE_LIMIT-clause-none
returns-then-pages-ge-PAGE_LIMIT-clause-none c =
    omega (arith, one_more-le c.args.blocks.now c.loop-order.order c.loop-order.pages (omega arith) c.loop-order.invariant.inside c.loop-order.invariant.pages)

pub loop-order-preserved : goal.loop-order-preserved
loop-order-preserved c = record {
  inside = omega arith;
  pages = one_more c.args.blocks.now c.loop-order.order c.loop-order.pages (omega arith) c.loop-order.invariant.inside c.loop-order.invariant.pages;
  small = omega arith;
}
