use Rattle.std.proofs.Common.{ℕ, ◌+◌, Bool, arith, refl, sym, ◌∙◌, ap}
use Rattle.zp_model.specs.Block.{is_max}
use Rattle.zp_plain.proofs.Looking.{range_here}
use Rattle.zp_plain.proofs.block_set.block_at.Goals as goal

pub orders-preserved : goal.orders-preserved
orders-preserved c =
    let p : ℕ → Bool = is_max c.args.largest c.args.free.now c.args.head in
    c.orders.invariant ∙ rw (range_here c.orders.number (c.args.largest + 1) (omega arith), ap p (sym c.at-order.ensures) ∙ sym c.is_max.ensures ∙ c.if-is_max.false) refl
