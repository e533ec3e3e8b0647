-- The order of the last block of a run, by the zeros that its end and its length have in front and behind.
use Rattle.std.proofs.Common.{ℕ, suc, zero, ◌+◌, ◌-◌, ◌*◌, ◌/◌, ◌%◌, ◌^◌, ◌≡◌, ◌≤◌, ◌<◌, inl, inr, sym, ◌∙◌, ap, arith, min}
use Rattle.std.specs.Int.{bit_at, trailing_zeros, w32}
use Rattle.std.specs.Int.Count.{count_leading_zeros}
use Rattle.std.proofs.Math.Nat.{mul-mod_left, pow-le-pow_right}
use Rattle.std.proofs.lemmas.Bool.{cases_lt}
use Rattle.std.proofs.lemmas.Nat.{leading_top, shl-shr}
use Rattle.std.proofs.lemmas.Nat.Bits.{bit_at-trailing_zeros}
use Rattle.zp_model.specs.RunLaws.{IsFitting}
use Rattle.zp_model.proofs.Heads.{two, aligned_down, head_self}

-- a multiple of a power of two, by an even number and by an odd one
pub aligned_up : (n k : ℕ) → n % 2 ^ k ≡ 0 → n / 2 ^ k % 2 ≡ 0 → n % 2 ^ (k + 1) ≡ 0
aligned_up n k al even =
    let q : ℕ = n / 2 ^ k / 2 in
    let w : ℕ = 2 ^ k in
    let half : n / 2 ^ k ≡ 2 * q = omega arith in
    let self : n / 2 ^ k * 2 ^ k ≡ n = head_self n k al in
    let twice : 2 * q * w ≡ q * (w + w) = grind arith in
    let all : n ≡ q * 2 ^ (k + 1) = sym self ∙ ap (λ p. p * w) half ∙ twice ∙ ap (λ p. q * p) (sym (two k)) in
    rw all (mul-mod_left q (2 ^ (k + 1)))

pub aligned_past : (n k : ℕ) → n % 2 ^ k ≡ 0 → n / 2 ^ k % 2 ≡ 1 → (n - 2 ^ k) % 2 ^ (k + 1) ≡ 0
aligned_past n k al odd =
    let q : ℕ = n / 2 ^ k / 2 in
    let w : ℕ = 2 ^ k in
    let half : n / 2 ^ k ≡ 2 * q + 1 = omega arith in
    let self : n / 2 ^ k * 2 ^ k ≡ n = head_self n k al in
    let twice : (2 * q + 1) * w ≡ q * (w + w) + w = grind arith in
    let all : n ≡ q * 2 ^ (k + 1) + w = sym self ∙ ap (λ p. p * w) half ∙ twice ∙ ap (λ p. q * p + w) (sym (two k)) in
    let less : n - w ≡ q * 2 ^ (k + 1) = omega (arith, all) in
    rw less (mul-mod_left q (2 ^ (k + 1)))

-- bits that are clear up to a place
low_clear : (n k : ℕ) → ((i : ℕ) → i < k → bit_at n i ≡ 0) → n % 2 ^ k ≡ 0
low_clear n zero f = omega arith
low_clear n (suc k) f =
    let s : suc k ≡ k + 1 = omega arith in
    ap (λ j. n % 2 ^ j) s ∙ aligned_up n k (low_clear n k (λ i lt. f i (omega arith))) (f k (omega arith))

-- and the bits of a multiple
bit_clear : (n i j : ℕ) → i < j → n % 2 ^ j ≡ 0 → bit_at n i ≡ 0
bit_clear n i j lt al =
    let w : ℕ = 2 ^ i in
    let r : ℕ = n / 2 ^ (i + 1) in
    let self : r * 2 ^ (i + 1) ≡ n = head_self n (i + 1) (aligned_down (i + 1) j n (omega arith) al) in
    let twice : r * (w + w) ≡ 2 * r * w = grind arith in
    let all : n ≡ 2 * r * w = sym self ∙ ap (λ p. r * p) (two i) ∙ twice in
    let number : n / 2 ^ i ≡ 2 * r = ap (λ p. p / w) all ∙ shl-shr (2 * r) i in
    ap (λ p. p % 2) number ∙ omega arith

pub last_fits : (m e n k : ℕ) → 0 < e → e < 2 ^ 32 → 0 < n → n < 2 ^ 32 → k ≡ min (min (trailing_zeros w32 e) (31 - count_leading_zeros 32 n)) m → IsFitting m e n k
last_fits m e n k some below more wide is =
    let t = bit_at-trailing_zeros w32 e some below in
    let x = leading_top 32 n more wide in
    let top : 31 - count_leading_zeros 32 n ≡ x.0 = omega (arith, x.1) in
    let low : 2 ^ k ≤ 2 ^ x.0 = pow-le-pow_right (omega arith) (omega (arith, is, top)) in
    record {
      order = omega (arith, is);
      aligned = aligned_down k (trailing_zeros w32 e) e (omega (arith, is)) (low_clear e (trailing_zeros w32 e) t.2);
      inside = omega (arith, low, x.2);
      greatest = λ j le al room.
          let within : j ≤ trailing_zeros w32 e = elim (cases_lt (trailing_zeros w32 e) j) [
            | inr le ↦ le
            | inl lt ↦ absurd (omega (arith, bit_clear e (trailing_zeros w32 e) j lt al, t.1))
          ] in
          let short : j ≤ x.0 = elim (cases_lt x.0 j) [
            | inr le ↦ le
            | inl lt ↦ let high : 2 ^ suc x.0 ≤ 2 ^ j = pow-le-pow_right (omega arith) (omega arith) in absurd (omega (arith, high, x.3, room))
          ] in
          omega (arith, is, top, within, short);
    }
