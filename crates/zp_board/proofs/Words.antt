-- Where the words of entries stand, and beginnings of lists of entries.
use Rattle.std.proofs.Common.{◌≡◌, ℕ, ◌+◌, ◌*◌, ◌<◌, ◌≤◌, List, [], ◌∷◌, ◌++◌, length, set, get_or, inl, inr, sym, ap, ◌∙◌, arith, append_assoc, length-append, add-one}
use native.Mathlib.Nat.{mul-suc}
use Rattle.std.proofs.Math.Nat.{mul-le-mul_left}
use Rattle.std.proofs.Math.ListN.{get_or-append}
use Rattle.std.proofs.Math.Seq.{get_or-append_seam}
use Rattle.std.proofs.lemmas.List.{append-nil, get_or-set_other}
use Rattle.std.proofs.lemmas.Grind.{get_or-set_at}
use Rattle.std.proofs.lemmas.Bool.{cases_eq}
use mathlib.Core.List.{IsPrefix}
use Rattle.zp_board.specs.Boards.{entry_at, word_at}

pub prefix_self : (es : List (List ℕ)) → IsPrefix es es
prefix_self es = ([], append-nil es)

pub prefix_more : (xs ys : List (List ℕ)) (e : List ℕ) → IsPrefix xs ys → IsPrefix xs (ys ++ e ∷ [])
prefix_more xs ys e p = (p.0 ++ e ∷ [], sym (append_assoc xs p.0 (e ∷ [])) ∙ ap (λ w. w ++ e ∷ []) p.1)

pub prefix_length : (xs ys : List (List ℕ)) → IsPrefix xs ys → length xs ≤ length ys
prefix_length xs ys p = omega (arith, sym (ap length p.1) ∙ length-append xs p.0)

pub prefix_get : (xs ys : List (List ℕ)) (n : ℕ) → IsPrefix xs ys → n < length xs → entry_at ys n ≡ entry_at xs n
prefix_get xs ys n p lt = ap (λ l. get_or l n []) (sym p.1) ∙ get_or-append xs p.0 [] n lt

pub more_words : (W n : ℕ) → W * n + W ≡ W * (n + 1)
more_words W n = sym (ap (λ k. W * k) (add-one n) ∙ mul-suc W n)

-- as many words as entries have up to one of them are no more than all of them have
pub few_words : (W n m : ℕ) → n < m → W * n + W ≤ W * m
few_words W n m lt = let le : W * (n + 1) ≤ W * m = mul-le-mul_left W (omega (arith, lt)) in omega (arith, le, more_words W n)

-- a word of an earlier entry stands before the words of a later one
pub earlier : (W n k m : ℕ) → n < m → k < W → word_at W n k < word_at W m 0
earlier W n k m lt inside = omega (arith, few_words W n m lt, inside)

-- one word more of the next entry
pub word_written : (words next : List ℕ) (at i x k : ℕ) → i ≡ at + length next → i < length words → k < length next + 1 →
    ((j : ℕ) → j < length next → get_or words (at + j) 0 ≡ get_or next j 0) → get_or (set words i x) (at + k) 0 ≡ get_or (next ++ x ∷ []) k 0
word_written words next at i x k is wide lt before =
    elim (cases_eq k (length next)) [
      | inl e ↦ rw e (get_or-set_at words i (at + length next) x 0 (omega arith) wide ∙ sym (get_or-append_seam next x [] 0))
      | inr ne ↦ get_or-set_other words i (at + k) x 0 (λ e. omega arith) ∙ before k (omega arith) ∙ sym (get_or-append next (x ∷ []) 0 k (omega arith))
    ]

-- what holds of each entry and of one more, holds of each
pub each_more : (P : ℕ → List ℕ → Type 0) (es : List (List ℕ)) (e : List ℕ) → ((n : ℕ) → n < length es → P n (entry_at es n)) → P (length es) e →
    (n : ℕ) → n < length (es ++ e ∷ []) → P n (entry_at (es ++ e ∷ []) n)
each_more P es e old new n lt =
    elim (cases_eq n (length es)) [
      | inl same ↦ rw (same, get_or-append_seam es e [] []) new
      | inr ne ↦ let less : n < length es = omega (arith, lt, length-append es (e ∷ [])) in rw (get_or-append es (e ∷ []) [] n less) (old n less)
    ]

-- each word of an entry that has room stands in the row
pub inside_row : (W n c words at k : ℕ) → n ≤ c → words ≡ W * (c + 1) + 1 → at ≡ word_at W n 0 → k < W → at + k < words
inside_row W n c words at k le is here lt = omega (arith, few_words W n (c + 1) (omega (arith, le)), is, here, lt)

pub inside_seen : (W n m words k : ℕ) → n < m → W * m + 1 ≤ words → k < W → word_at W n k < words
inside_seen W n m words k lt le inside = omega (arith, few_words W n m lt, le, inside)

-- where the next word is written
pub next_at : (W n m at k l : ℕ) → at ≡ word_at W n 0 → m ≡ n → l ≡ k → at + k ≡ word_at W m l
next_at W n m at k l here same as_far = rw (same, as_far) (omega (arith, here))
