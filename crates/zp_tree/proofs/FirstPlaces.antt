-- The first block of a word, level by level.
use Rattle.std.proofs.Common.{ℕ, ◌+◌, ◌≡◌, ◌≤◌, ◌<◌, inl, inr, refl, arith, Option, Some, None}
use Rattle.std.specs.Option.{unwrap_or}
use Rattle.std.proofs.lemmas.Bool.{cases_eq}
use Rattle.zp_tree.specs.declared.constants.TheConstants.{PLACES}
use Rattle.zp_tree.specs.Words.{Has, IsFirstOf}

-- the first block of level l or more and below level j, and the place that it starts at
abbrev pub IsFirstUpTo : ℕ → ℕ → ℕ → Option (ℕ × ℕ) → ℕ → Type 0
IsFirstUpTo w l j None end = (end ≡ PLACES) × ((q k : ℕ) → Has w q k → k < j → k < l)
IsFirstUpTo w l j (Some b) end = (end ≡ b.0) × Has w b.0 b.1 × (l ≤ b.1) × ((q k : ℕ) → Has w q k → k < j → q < b.0 → k < l)

level_with_none : (w l j end : ℕ) (q : Option (ℕ × ℕ)) → IsFirstUpTo w l j q end → IsFirstOf w j None → IsFirstUpTo w l (j + 1) q end
level_with_none w l j end None f none = (f.0, λ q k h lt. elim (cases_eq k j) [ inl same ↦ absurd (none q (rw (← same) h)) | inr ne ↦ f.1 q k h (omega arith) ])
level_with_none w l j end (Some b) f none = (f.0, f.1, f.2, λ q k h lt below. elim (cases_eq k j) [ inl same ↦ absurd (none q (rw (← same) h)) | inr ne ↦ f.3 q k h (omega arith) below ])

level_later : (w l j p end : ℕ) (q : Option (ℕ × ℕ)) → IsFirstUpTo w l j q end → IsFirstOf w j (Some p) → end ≤ p → IsFirstUpTo w l (j + 1) q end
level_later w l j p end None f first le = absurd (omega (arith, f.0, first.0.place.inside))
level_later w l j p end (Some b) f first le =
    (f.0, f.1, f.2, λ q k h lt below. elim (cases_eq k j) [ inl same ↦ absurd (omega (arith, f.0, first.1 q (rw (← same) h))) | inr ne ↦ f.3 q k h (omega arith) below ])

level_first : (w l j p end : ℕ) (q : Option (ℕ × ℕ)) → l ≤ j → IsFirstUpTo w l j q end → IsFirstOf w j (Some p) → p < end → IsFirstUpTo w l (j + 1) (Some (p, j)) p
level_first w l j p end q up f first lt =
    (refl, first.0, up, λ r k h below before. elim (cases_eq k j) [ inl same ↦ absurd (omega (arith, first.1 r (rw (← same) h))) | inr ne ↦ old q f r k h (omega arith) (omega arith) ])
  where
    old : (q : Option (ℕ × ℕ)) → IsFirstUpTo w l j q end → (r k : ℕ) → Has w r k → k < j → r < end → k < l
    old None f r k h below before = f.1 r k h below
    old (Some b) f r k h below before = f.3 r k h below (omega (arith, f.0))

up_to_end : (w l j end : ℕ) (q : Option (ℕ × ℕ)) → IsFirstUpTo w l j q end → end ≤ PLACES
up_to_end w l j end None f = omega (arith, f.0)
up_to_end w l j end (Some b) f = omega (arith, f.0, f.1.place.inside)

pub next_level_first : (w l j end : ℕ) (q : Option (ℕ × ℕ)) (r : Option ℕ) → IsFirstUpTo w l j q end → IsFirstOf w j r → l ≤ j → unwrap_or r PLACES < end →
    IsFirstUpTo w l (j + 1) (Some (unwrap_or r PLACES, j)) (unwrap_or r PLACES)
next_level_first w l j end q None f first up lt = absurd (omega (arith, up_to_end w l j end q f))
next_level_first w l j end q (Some p) f first up lt = level_first w l j p end q up f first lt

pub next_level_later : (w l j end : ℕ) (q : Option (ℕ × ℕ)) (r : Option ℕ) → IsFirstUpTo w l j q end → IsFirstOf w j r → end ≤ unwrap_or r PLACES → IsFirstUpTo w l (j + 1) q end
next_level_later w l j end q None f first le = level_with_none w l j end q f first
next_level_later w l j end q (Some p) f first le = level_later w l j p end q f first le
