use Rattle.std.proofs.Common.{ℕ, ◌+◌, arith, refl, sym, ◌∙◌, ap, Option}
use Rattle.zp_model.specs.BlockSet.{first_of}
use Rattle.zp_plain.specs.Chosen.{front_at}
use Rattle.zp_plain.proofs.Looking.{range_here}
use Rattle.zp_plain.proofs.choose.first_front.Goals as goal

pub returns-in-Some : goal.returns-in-Some
returns-in-Some c =
    let f : ℕ → Option ℕ = λ o. first_of (front_at c.args.area.now o) c.args.kinds.now in
    sym (c.orders.invariant ∙ rw (range_here c.orders.number (c.args.area.now.largest + 1) (omega arith), ap f (sym c.order_of.ensures) ∙ sym c.front_of.ensures ∙ c.in-Some.is) refl)

pub orders-preserved : goal.orders-preserved
orders-preserved c =
    let f : ℕ → Option ℕ = λ o. first_of (front_at c.args.area.now o) c.args.kinds.now in
    c.orders.invariant ∙ rw (range_here c.orders.number (c.args.area.now.largest + 1) (omega arith), ap f (sym c.order_of.ensures) ∙ sym c.front_of.ensures ∙ c.in_default.is) refl
