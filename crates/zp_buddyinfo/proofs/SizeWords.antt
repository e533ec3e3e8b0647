-- A word is parted into a number and a unit in one way.
use Rattle.std.proofs.Common.{ℕ, ◌≡◌, ◌<◌, ◌≤◌, ◌*◌, ◌^◌, ◌++◌, ◌∷◌, [], List, length, refl, sym, ap, ◌∙◌, arith}
use Rattle.std.specs.Prelude.{Option, None, Some, IfNone}
use Rattle.std.specs.Fmt.{decimal}
use Rattle.std.proofs.lemmas.List.{append-nil, get_or_push, length_push, same_from_push}
use Rattle.zp_buddyinfo.specs.Sizes.{EndsInNoLetter, IsSize, bytes_of, letter_of}
use Rattle.zp_buddyinfo.specs.declared.page.SizeUnit.{SizeUnit}
use Rattle.zp_buddyinfo.specs.declared.page.SizeUnit.TheVariants.{Byte, Kibibyte, Mebibyte, Gibibyte}
use Rattle.zp_numbers.proofs.Numbers.{digit}

-- no number ends in a letter
no_digit : (d : List ℕ) (c n : ℕ) → n < 2 ^ 64 → 57 < c → d ++ c ∷ [] ≡ decimal n → ⊥
no_digit d c n small above e =
    let many : length d < length (d ++ c ∷ []) = omega (arith, length_push d c) in
    omega (arith, digit (d ++ c ∷ []) n (length d) small e many, get_or_push d c 0 (length d) refl, above)

pub one_split : (d : List ℕ) (u v : SizeUnit) (n : ℕ) → n < 2 ^ 64 → (u ≡ Byte → EndsInNoLetter d) → d ++ letter_of u ≡ decimal n ++ letter_of v →
    (d ≡ decimal n) × (u ≡ v)
one_split d Byte v n small plain e =
    let same : d ≡ decimal n ++ letter_of v = sym (append-nil d) ∙ e in
    let unit : v ≡ Byte = plain refl (decimal n) v same in
    (same ∙ ap (λ w. decimal n ++ letter_of w) unit ∙ append-nil (decimal n), sym unit)
one_split d Kibibyte Byte n small plain e = absurd (no_digit d 75 n small (omega arith) (e ∙ append-nil (decimal n)))
one_split d Mebibyte Byte n small plain e = absurd (no_digit d 77 n small (omega arith) (e ∙ append-nil (decimal n)))
one_split d Gibibyte Byte n small plain e = absurd (no_digit d 71 n small (omega arith) (e ∙ append-nil (decimal n)))
one_split d Kibibyte Kibibyte n small plain e = ((same_from_push d (decimal n) 75 75 e).0, refl)
one_split d Mebibyte Mebibyte n small plain e = ((same_from_push d (decimal n) 77 77 e).0, refl)
one_split d Gibibyte Gibibyte n small plain e = ((same_from_push d (decimal n) 71 71 e).0, refl)
one_split d Kibibyte Mebibyte n small plain e = absurd (omega (arith, (same_from_push d (decimal n) 75 77 e).1))
one_split d Kibibyte Gibibyte n small plain e = absurd (omega (arith, (same_from_push d (decimal n) 75 71 e).1))
one_split d Mebibyte Kibibyte n small plain e = absurd (omega (arith, (same_from_push d (decimal n) 77 75 e).1))
one_split d Mebibyte Gibibyte n small plain e = absurd (omega (arith, (same_from_push d (decimal n) 77 71 e).1))
one_split d Gibibyte Kibibyte n small plain e = absurd (omega (arith, (same_from_push d (decimal n) 71 75 e).1))
one_split d Gibibyte Mebibyte n small plain e = absurd (omega (arith, (same_from_push d (decimal n) 71 77 e).1))

-- a unit has a byte at least
some_bytes : (u : SizeUnit) (n : ℕ) → n ≤ n * bytes_of u
some_bytes Byte n = omega arith
some_bytes Kibibyte n = omega arith
some_bytes Mebibyte n = omega arith
some_bytes Gibibyte n = omega arith

-- what a word says that was parted so
pub said_by : (word d : List ℕ) (u : SizeUnit) (bytes : ℕ) → bytes < 2 ^ 64 → word ≡ d ++ letter_of u → (u ≡ Byte → EndsInNoLetter d) → IsSize word bytes →
    (n : ℕ) × (n < 2 ^ 64) × (d ≡ decimal n) × (bytes ≡ n * bytes_of u)
said_by word d u bytes small parts plain (n, v, written, says) =
    let few : n < 2 ^ 64 = omega (arith, some_bytes v n, says) in
    let one = one_split d u v n few plain (sym parts ∙ written) in
    (n, few, one.0, says ∙ ap (λ w. n * bytes_of w) (sym one.1))

pub none_where : {T : Type 0} {P : Type 0} (r : Option T) → (r ≡ None → P) → IfNone r P
none_where None f = f refl
none_where (Some x) f = tt
