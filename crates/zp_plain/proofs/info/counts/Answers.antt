use Rattle.std.proofs.Common.{get_or-set_same, get_or-set_other, length-set, arith, ap, refl, ◌∙◌, below_more}
use Rattle.std.proofs.lemmas.List.FromFn.{fill_by_all}
use Rattle.zp_model.specs.Info.{blocks_of_order}
use Rattle.zp_plain.proofs.info.counts.Goals as goal

pub orders-preserved : goal.orders-preserved
orders-preserved c = record {
  orders = length-set _ _ _ ∙ c.orders.invariant.orders;
  counted =
      below_more _ _ (λ j lt. get_or-set_other c.orders.by_order c.orders.k j c.blocks_of_order.result 0 (omega arith) ∙ c.orders.invariant.counted j lt)
      (get_or-set_same c.orders.by_order c.orders.k c.blocks_of_order.result 0 (omega (arith, c.orders.invariant.orders)) ∙ c.blocks_of_order.ensures ∙ ap (λ k. blocks_of_order c.args.largest c.args.free.now k) c.order_of.ensures);
}

pub returns : goal.returns
returns c = rw (fill_by_all (blocks_of_order c.args.largest c.args.free.now) c.orders.by_order 11 0 c.orders.invariant.orders (λ j lt. c.orders.invariant.counted j (omega arith)), c.size.ensures) refl
