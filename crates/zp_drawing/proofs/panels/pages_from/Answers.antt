use Rattle.std.proofs.Common.{◌≡◌, ℕ, ◌+◌, ◌-◌, ◌*◌, ◌%◌, ◌^◌, min, arith}
use Rattle.std.proofs.lemmas.List.FromFn.{sum_by-map-range_with_len_more}
use Rattle.std.proofs.lemmas.Nat.{one_shl}
use Rattle.zp_model.specs.declared.constants.TheConstants.{ORDERS}
use Rattle.zp_drawing.specs.Panels.{pages_in}
use Rattle.zp_drawing.proofs.panels.pages_from.Goals as goal

-- one order more
pub orders-preserved : goal.orders-preserved
orders-preserved c =
    let count : min (c.orders.number + 1) ORDERS - c.args.order ≡ (c.orders.number - c.args.order) + 1 = omega arith in
    let was : min c.orders.number ORDERS - c.args.order ≡ c.orders.number - c.args.order = omega arith in
    let at : c.args.order + (c.orders.number - c.args.order) ≡ c.orders.number = omega arith in
    let more = sum_by-map-range_with_len_more (λ (x : ℕ). x) (pages_in c.args.by_order.now) c.args.order (c.orders.number - c.args.order) c.orders.number at in
    let before = rw was at c.orders.invariant in
    let shifted : (1 * 2 ^ c.orders.number) % 2 ^ 32 ≡ 2 ^ c.orders.number = one_shl c.orders.number 32 (omega arith) in
    let product = rw shifted at c.saturating_mul.ensures in
    rw (count, more) (omega (arith, before, product, c.saturating_add-pages.ensures))
