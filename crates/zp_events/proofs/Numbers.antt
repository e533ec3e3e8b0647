-- Numbers, digit by digit.
use Rattle.std.proofs.Common.{ℕ, zero, suc, ◌≡◌, ◌<◌, ◌≤◌, ◌+◌, ◌*◌, ◌^◌, List, [], ◌∷◌, length, take, get_or, sym, subst, ◌∙◌, arith}
use Rattle.std.specs.Char.{digit_value}
use Rattle.std.specs.Str.Parse.{AllDigits, digits_value}
use Rattle.std.proofs.lemmas.Int.Digits.{digits_value_more, digits_more}
use Rattle.std.proofs.lemmas.Str.Parse.{digits_value-take-le}
use Rattle.zp_events.specs.Numbers.{IsNumber}

-- each byte of digits is a digit
pub digit_below : (base : ℕ) (word : List ℕ) (i : ℕ) → AllDigits base word → i < length word → digit_value (get_or word i 0) < base
digit_below base [] i ds inside = absurd (omega arith)
digit_below base (c ∷ word) zero ds inside = ds.0
digit_below base (c ∷ word) (suc i) ds inside = digit_below base word i ds.1 (omega arith)

-- a number that is too large after some digits is so after all
pub too_large : (base : ℕ) (word : List ℕ) (i n digit m : ℕ) → 2 ≤ base → i < length word → n ≡ digits_value base (take i word) → digit ≡ digit_value (get_or word i 0) →
    2 ^ 64 ≤ n * base + digit → IsNumber base word m → ⊥
too_large base word i n digit m two inside so_far is large number =
    let sum : n * base + digit ≡ digits_value base (take i word) * base + digit_value (get_or word i 0) = cc in
    let front : 2 ^ 64 ≤ digits_value base (take (i + 1) word) = subst (λ v. 2 ^ 64 ≤ v) (sum ∙ sym (digits_value_more base word i inside)) large in
    let whole : digits_value base (take (i + 1) word) ≤ digits_value base word = digits_value-take-le base word (i + 1) (omega arith) in
    let value = number.value in
    let fits = number.fits in
    omega arith

-- one digit more
pub more : (base : ℕ) (word : List ℕ) (i n digit m : ℕ) → i < length word → AllDigits base (take i word) → n ≡ digits_value base (take i word) →
    digit_value (get_or word i 0) < base → digit ≡ digit_value (get_or word i 0) → m ≡ n * base + digit → AllDigits base (take (i + 1) word) × (m ≡ digits_value base (take (i + 1) word))
more base word i n digit m inside ds so_far below is sum =
    let same : n * base + digit ≡ digits_value base (take i word) * base + digit_value (get_or word i 0) = cc in
    (digits_more base word i inside ds below, sum ∙ same ∙ sym (digits_value_more base word i inside))
