use Rattle.std.proofs.Common.{ℕ, zero, suc, ◌≤◌, ◌-◌, ◌≡◌, ◌<◌, ◌^◌, inl, inr, refl, sym, arith, min}
use Rattle.std.specs.Int.{trailing_zeros, w32}
use Rattle.std.specs.Int.Count.{count_leading_zeros}
use Rattle.std.proofs.Math.Nat.{pow-le-pow_right}
use Rattle.std.proofs.lemmas.Bool.{cases_lt}
use Rattle.std.proofs.lemmas.Nat.{leading_top, pow_pos}
use Rattle.zp_model.specs.RunLaws.{IsFitting}
use Rattle.zp_model.proofs.Cuts.{fitting_unique}
use Rattle.zp_buddy.proofs.LastOrders.{last_fits}
use Rattle.zp_buddy.proofs.cut.fitting_order.Goals as goal

none_behind : trailing_zeros w32 0 ≡ 32
unfolding lib.Count.count_trailing_zeros
none_behind = refl

-- at page 0 a block of each order is aligned
zero_fits : (m n k : ℕ) → 0 < n → n < 2 ^ 32 → k ≡ min (min (trailing_zeros w32 0) (31 - count_leading_zeros 32 n)) m → IsFitting m 0 n k
zero_fits m n k some wide is =
    let x = leading_top 32 n some wide in
    let top : min (trailing_zeros w32 0) (31 - count_leading_zeros 32 n) ≡ x.0 = omega (arith, x.1, none_behind) in
    let low : 2 ^ k ≤ 2 ^ x.0 = pow-le-pow_right (omega arith) (omega (arith, is, top)) in
    record {
      order = omega (arith, is);
      aligned = omega (arith, pow_pos k);
      inside = omega (arith, low, x.2);
      greatest = λ j le al room. elim (cases_lt x.0 j) [
        | inr short ↦ omega (arith, is, top)
        | inl lt ↦ let high : 2 ^ suc x.0 ≤ 2 ^ j = pow-le-pow_right (omega arith) (omega arith) in absurd (omega (arith, high, x.3, room))
      ];
    }

first_fits : (m h n k : ℕ) → h < 2 ^ 32 → 0 < n → n < 2 ^ 32 → k ≡ min (min (trailing_zeros w32 h) (31 - count_leading_zeros 32 n)) m → IsFitting m h n k
first_fits m zero n k below some wide is = zero_fits m n k some wide is
first_fits m (suc h) n k below some wide is = last_fits m (suc h) n k (omega arith) below some wide is

pub returns : goal.returns
returns c =
    let place : c.number-aligned.result ≡ c.args.at = c.number-aligned.ensures.same in
    sym (fitting_unique c.args.largest c.args.at c.args.pages c.at.result
    (rw place at (first_fits c.args.largest c.number-aligned.result c.args.pages c.at.result (omega (arith, c.number-aligned.ensures.within)) c.requires (omega (arith, c.ranges.pages)) (omega (arith, c.at.ensures)))))
