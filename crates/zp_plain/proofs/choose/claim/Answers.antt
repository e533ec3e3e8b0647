use Rattle.std.proofs.Common.{ℕ, ◌≡◌, ◌≤◌, ◌<◌, arith, refl, sym, ◌∙◌, Option, Some, None}
use Rattle.zp_model.specs.BlockSet.{first_of}
use Rattle.zp_model.specs.MigrateType.{foreign}
use Rattle.zp_plain.specs.Chosen.{claimable_at}
use Rattle.zp_plain.proofs.Looking.{back_left, range_none}
use Rattle.zp_model.specs.Choose.{claim}
use Rattle.zp_plain.proofs.choose.claim.Goals as goal

pub returns-in-Some : goal.returns-in-Some
unfolding claim
returns-in-Some c =
    let f : ℕ → Option ℕ = λ o. first_of (claimable_at c.args.area.now c.args.kind o) (foreign c.args.kind) in
    let lt : c.args.order < c.orders.left = omega (arith, c.index.ensures.same) in
    let e : f c.order_of.result ≡ Some c.in-Some.head = rw (← c.fallbacks.ensures) (sym c.claimable_of.ensures ∙ c.in-Some.is) in
    sym (c.orders.invariant.rest
    ∙ back_left f c.args.order c.orders.left c.order_of.result c.order_of.ensures lt ∙ rw e refl)

pub orders-preserved : goal.orders-preserved
orders-preserved c =
    let f : ℕ → Option ℕ = λ o. first_of (claimable_at c.args.area.now c.args.kind o) (foreign c.args.kind) in
    let lt : c.args.order < c.orders.left = omega (arith, c.index.ensures.same) in
    let e : f c.order_of.result ≡ None = rw (← c.fallbacks.ensures) (sym c.claimable_of.ensures ∙ c.in_default.is) in
    record {
      within = omega (arith, c.orders.invariant.within);
      rest = c.orders.invariant.rest ∙ back_left f c.args.order c.orders.left c.order_of.result c.order_of.ensures lt ∙ rw e refl;
    }

pub returns : goal.returns
unfolding claim
returns c =
    let last : c.orders.left ≤ c.args.order = omega (arith, c.index.ensures.same) in
    sym (c.orders.invariant.rest ∙ rw (range_none c.args.order c.orders.left last) refl)
