-- Numbers in their places, and the space after each.
use Rattle.std.proofs.Common.{ℕ, ◌≡◌, ◌≤◌, ◌<◌, ◌+◌, ◌-◌, List, [], ◌∷◌, ◌++◌, length, length-append, replicate, take, drop, sym, ap, ◌∙◌, append_assoc, arith, inl, inr}
use Rattle.std.proofs.Math.Seq.{take-append-add, take-append_seam, drop-append-add}
use Rattle.std.proofs.lemmas.Bool.{cases_lt}
use Rattle.std.proofs.lemmas.List.{length-replicate, take-append-drop, take-append-le, take-replicate}
use Rattle.std.specs.Fmt.{decimal}
use Rattle.zp_model.specs.Info.{number_field}
use Rattle.zp_info.proofs.Decimal.{digits-7, digits-8, digits-9, digits-10}

-- digits that were written over the end of spaces, all but the last of which they may take
pub field_is : (front spaces rest d after : List ℕ) (start at n : ℕ) → length front ≡ start → spaces ≡ replicate 7 32 → start ≤ at → at + length d ≡ start + 6 → n ≡ start + 7 →
    drop at after ≡ d ++ drop (start + 6) (front ++ (spaces ++ rest)) → take at after ≡ take at (front ++ (spaces ++ rest)) →
    take n after ≡ front ++ ((replicate (6 - length d) 32 ++ d) ++ 32 ∷ [])
field_is front spaces rest d after start at n size blank le ends end behind before =
    let k : ℕ = 6 - length d in
    let place : at ≡ length front + k = omega arith in
    let last : start + 6 ≡ length front + 6 = omega arith in
    let begins : take at after ≡ front ++ replicate k 32 =
    before
    ∙ ap (λ (q : List ℕ). take at (front ++ (q ++ rest))) blank
    ∙ ap (λ m. take m (front ++ (replicate 7 32 ++ rest))) place
    ∙ take-append-add front (replicate 7 32 ++ rest) k
    ∙ ap (λ (q : List ℕ). front ++ q) (take-append-le k (replicate 7 32) rest (omega arith) ∙ take-replicate k 7 32 (omega arith)) in
    let goes : drop at after ≡ d ++ 32 ∷ rest =
    behind
    ∙ ap (λ (q : List ℕ). d ++ q)
    (ap (λ (q : List ℕ). drop (start + 6) (front ++ (q ++ rest))) blank
    ∙ ap (λ m. drop m (front ++ (replicate 7 32 ++ rest))) last
    ∙ drop-append-add front (replicate 7 32 ++ rest) 6) in
    let field : List ℕ = (replicate k 32 ++ d) ++ 32 ∷ [] in
    let whole : after ≡ (front ++ field) ++ rest =
    sym (take-append-drop at after)
    ∙ ap (λ (q : List ℕ). q ++ drop at after) begins
    ∙ ap (λ (q : List ℕ). (front ++ replicate k 32) ++ q) goes
    ∙ append_assoc front (replicate k 32) (d ++ 32 ∷ rest)
    ∙ ap (λ (q : List ℕ). front ++ q) (sym (append_assoc (replicate k 32) d (32 ∷ rest)) ∙ sym (append_assoc (replicate k 32 ++ d) (32 ∷ []) rest))
    ∙ sym (append_assoc front field rest) in
    let long : n ≡ length (front ++ field) =
    omega (arith, length-append front field, length-append (replicate k 32 ++ d) (32 ∷ []), length-append (replicate k 32) d, length-replicate {A = ℕ} k 32) in
    ap (λ (q : List ℕ). take n q) whole ∙ ap (λ m. take m ((front ++ field) ++ rest)) long ∙ take-append_seam (front ++ field) rest

-- a number of more digits than there are places has no spaces before it
many_digits : (n : ℕ) → 1000000 ≤ n → n < 4294967296 → 6 ≤ length (decimal n)
many_digits n le lt =
    elim (cases_lt n 10000000) [
      | inl seven ↦ omega (arith, digits-7 n le seven)
      | inr more ↦ elim (cases_lt n 100000000) [
        | inl eight ↦ omega (arith, digits-8 n more eight)
        | inr many ↦ elim (cases_lt n 1000000000) [
          | inl nine ↦ omega (arith, digits-9 n many nine)
          | inr most ↦ omega (arith, digits-10 n most lt)
        ]
      ]
    ]

pub long_field : (n : ℕ) → 1000000 ≤ n → n < 4294967296 → number_field n ≡ decimal n ++ 32 ∷ []
long_field n le lt =
    let none : 6 - length (decimal n) ≡ 0 = omega (arith, many_digits n le lt) in
    ap (λ k. (replicate k 32 ++ decimal n) ++ 32 ∷ []) none
