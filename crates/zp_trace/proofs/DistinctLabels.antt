-- Labels have small numbers, and no two labels have one number.
use Rattle.std.proofs.Common.{ℕ, zero, suc, ◌≡◌, ◌==◌, ◌&&◌, ◌<◌, ◌≤◌, ◌+◌, ◌^◌, true, List, [], ◌∷◌, length, drop, IsTrue, refl, ap, lit<, arith}
use Rattle.std.specs.Bool.{Decides}
use Rattle.std.specs.Char.{is_ascii_alphanumeric}
use Rattle.std.specs.List.{AllByRecursion}
use Rattle.std.specs.Ordering.{is_eq, nat_cmp}
use Rattle.std.specs.Str.{bytes_eq}
use Rattle.std.proofs.Math.Nat.{pow-succ'}
use Rattle.std.proofs.lemmas.Bool.Decides.{Decides-and, Decides-eqb, nat_tests, same_from_decides}
use Rattle.std.proofs.lemmas.List.{length-drop}
use Rattle.std.proofs.lemmas.List.Elements.{recursion_from_All}
use Rattle.std.proofs.lemmas.Slice.Eq.{bytes_eq-Decides}
use Rattle.zp_model.specs.declared.constants.TheConstants.{MAX_WORKERS}
use Rattle.zp_model.specs.Naming.{IsName}
use Rattle.zp_trace.specs.LabelKeys.{bound_key, label_key}
use Rattle.zp_trace.proofs.WordLists.{all_weaker}

-- what is a digit of a label's number
abbrev pub IsDigit : ℕ → Type 0
IsDigit b = (0 < b) × (b < 128)

letter_is_digit : (b : ℕ) → IsTrue (is_ascii_alphanumeric b) → IsDigit b
letter_is_digit b h = (grind (arith, nat_tests), grind (arith, nat_tests))

pub name_digits : (label : List ℕ) → IsName label → AllByRecursion IsDigit label
name_digits label is =
    all_weaker (λ b. IsTrue (is_ascii_alphanumeric b)) IsDigit letter_is_digit label (recursion_from_All (λ b. IsTrue (is_ascii_alphanumeric b)) label is.2)

digits_after : (i : ℕ) (label : List ℕ) → AllByRecursion IsDigit label → AllByRecursion IsDigit (drop i label)
digits_after zero label is = is
digits_after (suc i) [] is = tt
digits_after (suc i) (b ∷ label) is = digits_after i label is.1

-- few digits make a small number
digits_below : (n : ℕ) (label : List ℕ) → length label ≤ n → AllByRecursion IsDigit label → label_key label < 128 ^ n
digits_below zero [] few is = lit< tt
digits_below (suc n) [] few is = omega (arith, digits_below n [] (omega arith) tt, pow-succ' 128 n)
digits_below zero (b ∷ label) few is = absurd (omega (arith, few))
digits_below (suc n) (b ∷ label) few is =
    omega (arith, digits_below n label (omega (arith, few)) is.1, pow-succ' 128 n, is.0.1)

pub key_below : (n i : ℕ) (label : List ℕ) → IsName label → length label ≤ n + i → label_key (drop i label) < 128 ^ n
key_below n i label is few =
    digits_below n (drop i label) (omega (arith, few, length-drop i label)) (digits_after i label (name_digits label is))

-- digits are one number's
same_digits : (label other : List ℕ) → AllByRecursion IsDigit label → AllByRecursion IsDigit other → label_key label ≡ label_key other → label ≡ other
same_digits [] [] is are e = refl
same_digits [] (c ∷ other) is are e = absurd (omega (arith, e, are.0.0))
same_digits (b ∷ label) [] is are e = absurd (omega (arith, e, is.0.0))
same_digits (b ∷ label) (c ∷ other) is are e =
    let first : b ≡ c = omega (arith, e, is.0.1, are.0.1) in
    let rest = same_digits label other is.1 are.1 (omega (arith, e, is.0.1, are.0.1)) in
    cc

-- two labels of one number are the same
pub same_label : (label other : List ℕ) → IsName label → IsName other → label_key label ≡ label_key other → label ≡ other
same_label label other is are e = same_digits label other (name_digits label is) (name_digits other are) e

numbers_same : (m n : ℕ) → is_eq (nat_cmp m n) ≡ true → m ≡ n
numbers_same m n t = grind (arith, nat_tests)

numbers_equal : (m n : ℕ) → m ≡ n → is_eq (nat_cmp m n) ≡ true
numbers_equal m n e = grind (arith, nat_tests)

-- so the numbers tell labels apart
pub key_tells : (label other : List ℕ) → IsName label → IsName other → is_eq (nat_cmp (label_key label) (label_key other)) ≡ bytes_eq label other
key_tells label other is are = same_from_decides (is_eq (nat_cmp (label_key label) (label_key other))) (bytes_eq label other) tells (bytes_eq-Decides label other)
  where
    tells : Decides (is_eq (nat_cmp (label_key label) (label_key other))) (label ≡ other)
    tells =
        (λ t. same_label label other is are (numbers_same (label_key label) (label_key other) t), λ e. numbers_equal (label_key label) (label_key other) (ap label_key e))

-- and with their workers in them, workers too
pub bound_key_tells : (worker another : ℕ) (label other : List ℕ) → worker < MAX_WORKERS → another < MAX_WORKERS → IsName label → IsName other →
    is_eq (nat_cmp (bound_key worker label) (bound_key another other)) ≡ ((worker == another) && bytes_eq label other)
bound_key_tells worker another label other small below is are =
    same_from_decides (is_eq (nat_cmp (bound_key worker label) (bound_key another other))) ((worker == another) && bytes_eq label other) tells
    (Decides-and (worker == another) (bytes_eq label other) (Decides-eqb worker another) (bytes_eq-Decides label other))
  where
    tells : Decides (is_eq (nat_cmp (bound_key worker label) (bound_key another other))) ((worker ≡ another) × (label ≡ other))
    tells = (
      λ t.
          let e = numbers_same (bound_key worker label) (bound_key another other) t in
          (omega (arith, e, small, below), same_label label other is are (omega (arith, e, small, below))),
      λ both. numbers_equal (bound_key worker label) (bound_key another other) (omega (arith, both.0, ap label_key both.1)),
    )
