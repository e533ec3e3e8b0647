use Rattle.std.proofs.Common.{◌≡◌, ◌≤◌, ◌^◌, inl, inr, arith}
use Rattle.std.proofs.Math.Nat.{pow-le-pow_right}
use Rattle.std.proofs.lemmas.Bool.{cases_lt}
use Rattle.zp_model.specs.Block.{head}
use Rattle.zp_model.proofs.Heads.{head_le, head_of, lt_head}
use Rattle.zp_area.proofs.area.FreeArea.order_above.Goals as goal

-- what the head heads has the page, as it is no smaller than the run around the page
pub returns-then-number-clause-some : goal.returns-then-number-clause-some
returns-then-number-clause-some c =
    let number = c.orders.number in
    let g = head c.args.at number in
    let st = rw (c.head-head.ensures, c.at.ensures) at c.in-Some.ensures.some in
    let large : number ≤ c.in-Some.found = omega (arith, c.if-number.true, c.number.ensures.same) in
    let wide : 2 ^ number ≤ 2 ^ c.in-Some.found = pow-le-pow_right (omega arith) large in
    let same : head c.args.at c.in-Some.found ≡ g =
    head_of g c.args.at c.in-Some.found (c.pages-pages.ensures.one.blocks.block g c.in-Some.found st).aligned (head_le c.args.at number) (omega (arith, lt_head c.args.at number, wide)) in
    (omega (arith, large, c.orders.invariant.from), rw same st)

pub returns-clause-none : goal.returns-clause-none
returns-clause-none c = λ k from st. elim (cases_lt k c.orders.number) [
  | inl before ↦ c.orders.invariant.none k from before st
  | inr past ↦ omega (arith, (c.pages-pages.ensures.one.blocks.block (head c.args.at k) k st).order, c.orders-test.false, c.largest.ensures, c.number-largest.ensures.same)
]
