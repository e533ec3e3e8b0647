use Rattle.std.proofs.Common.{arith}
use Rattle.zp_claims.proofs.Numbers.{order-known}
use Rattle.zp_claims.proofs.table.ClaimTable.largest_beside.Goals as goal

pub orders-init : goal.orders-init
orders-init c = record {
  orders = omega arith;
  below = λ b o x. omega (arith, order-known c.self.inside.codes.items c.self.inside.numbers c.self.invariant b (record { kind = x.kind; order = o }) (rw c.self.view_is x.noted));
}

pub returns-then-is_noted_beside : goal.returns-then-is_noted_beside
returns-then-is_noted_beside c = (c.is_noted_beside.ensures.0 c.if-is_noted_beside.true, λ b o x. omega (arith, c.orders.invariant.below b o x, c.at-order.ensures))

pub returns : goal.returns
returns c = λ b o x. omega (arith, c.orders.invariant.below b o x, c.orders-test.false)
