use Rattle.std.proofs.Common.{ℕ, suc, ◌+◌, ◌-◌, ◌/◌, ◌≡◌, ◌≤◌, ◌<◌, ◌^◌, ap, arith, min}
use Rattle.std.specs.Int.Count.{count_leading_zeros}
use Rattle.std.proofs.Math.Nat.{pow-le-pow_right}
use Rattle.std.proofs.lemmas.Nat.{leading_top}
use Rattle.zp_model.specs.declared.constants.TheConstants.{MAX_PAGES}
use Rattle.zp_model.proofs.Heads.{two}
use Rattle.zp_zone.proofs.untied_zone.lowest.order_inside.Goals as goal

-- the place of the top bit of half of n + 1, or m where that is less
inside : (n m r : ℕ) → 0 < n → n ≤ MAX_PAGES → r ≡ min (31 - count_leading_zeros 32 ((n + 1) / 2)) m → (2 ^ (r + 1) ≤ n + 1) × (r < m → n + 1 < 2 ^ (r + 2))
inside n m r some few e =
    let x = leading_top 32 ((n + 1) / 2) (omega arith) (omega (arith, few)) in
    let same : x.0 ≡ 31 - count_leading_zeros 32 ((n + 1) / 2) = omega (arith, x.1) in
    let low : 2 ^ r ≤ 2 ^ x.0 = pow-le-pow_right (omega arith) (omega (arith, e, same)) in (
      omega (arith, two r, low, x.2),
      λ lt.
          let is : suc x.0 ≡ r + 1 = omega (arith, e, same, lt) in
          let up : r + 2 ≡ r + 1 + 1 = omega arith in
          omega (arith, x.3, ap (λ k. 2 ^ k) is, two (r + 1), ap (λ k. 2 ^ k) up),
    )

pub returns-clause-inside : goal.returns-clause-inside
returns-clause-inside c = rw c.at.ensures (inside c.args.pages c.from.result c.min.result c.requires.some c.requires.few c.min.ensures).0

pub returns-clause-greatest : goal.returns-clause-greatest
returns-clause-greatest c =
    rw c.at.ensures (λ lt. (inside c.args.pages c.from.result c.min.result c.requires.some c.requires.few c.min.ensures).1 (omega (arith, lt, c.from.ensures, c.number.ensures.same)))
