-- A number that stands at the right of its places.
use Rattle.std.proofs.Common.{ℕ, ◌≡◌, ◌-◌, ◌^◌, suc, zero, false, List, [], ◌∷◌, ◌++◌, ap, refl, length, replicate, arith}
use Rattle.std.specs.Fmt.{padded_integral, format_spec, char_count}
use Rattle.std.specs.List.{repeat}
use Rattle.std.proofs.lemmas.List.{append-nil}
use Rattle.zp_model.specs.Info.{right_aligned}

pub repeat-space : (n : ℕ) → repeat {A = ℕ} n (32 ∷ []) ≡ replicate n 32
repeat-space zero = refl
repeat-space (suc n) = ap (λ l. 32 ∷ l) (repeat-space n)

pub right_aligned-padded : (places : ℕ) (digits : List ℕ)
    → padded_integral (format_spec 32 3 0 places (2 ^ 64 - 1)) false [] digits ≡ right_aligned places digits
unfolding padded_integral char_count lib.Utf8.encode
right_aligned-padded places digits =
    let padding : places - length digits - 0 - 0 ≡ places - length digits = omega arith in
    let rest : (places - length digits) - (places - length digits) ≡ 0 = omega arith in
    simp (append-nil, padding, rest) (ap (λ l. l ++ digits) (repeat-space (places - length digits)))
