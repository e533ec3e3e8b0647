-- Runs of which no page is in a block, before and after a block is set or cleared.
use Rattle.std.proofs.Common.{ℕ, ◌^◌, ◌≡◌, ◌≢◌, ◌<◌, ◌⊎◌, inl, inr, refl, sym, ◌∙◌, ap, arith, Bool, false, List, length, get_or, replicate, Option, Some, None}
use Rattle.std.specs.Bool.{Decides}
use Rattle.std.proofs.lemmas.Nat.{pow_pos}
use Rattle.std.proofs.lemmas.Bool.{cases_eq, false≢true, false_from_ne_true, eq-eqb, eqb-true}
use Rattle.std.proofs.lemmas.Bool.Decides.{Decides-below_or}
use Rattle.std.proofs.lemmas.List.{length-set, get_or-set_same, get_or-set_other}
use Rattle.zp_model.specs.Block.{IsBlock, head}
use Rattle.zp_model.specs.BlockSet.{Starts, some_below, is_order, is_covered}
use Rattle.zp_model.proofs.Heads.{head_le, lt_head}
use Rattle.zp_tree.specs.Blocks.{IsBlockSet, IsApart, IsBeside, with_block, without_block}
use Rattle.zp_tree.proofs.BlockSets.{no_start, same_page}

-- the block of order k around page i is in the set
abbrev is_around : List (Option ℕ) → ℕ → ℕ → Bool
is_around s i k = is_order k (get_or s (head i k) None)

covered-decides : (s : List (Option ℕ)) (i : ℕ) → Decides (is_covered s i) ((k : ℕ) × (k < length s) × Starts s (head i k) k)
covered-decides s i = Decides-below_or (is_around s i) (λ k. Starts s (head i k) k) (some_below (is_around s i)) (λ k. order_decides k (get_or s (head i k) None)) refl (λ _. refl) (length s)
  where
    order_decides : (k : ℕ) (o : Option ℕ) → Decides (is_order k o) (o ≡ Some k)
    order_decides k None = (λ e. absurd (false≢true e), λ e. absurd cc)
    order_decides k (Some j) = (λ e. ap (λ n. Some n) (eqb-true j k e), λ e. eq-eqb j k cc)

pub uncovered-to : (s : List (Option ℕ)) (i k : ℕ) → is_covered s i ≡ false → k < length s → Starts s (head i k) k → ⊥
uncovered-to s i k e lt st = false≢true (sym e ∙ (covered-decides s i).1 (k, lt, st))

pub uncovered-from : (s : List (Option ℕ)) (i : ℕ) → ((k : ℕ) → k < length s → Starts s (head i k) k → ⊥) → is_covered s i ≡ false
uncovered-from s i none = false_from_ne_true _ (λ e. let w = (covered-decides s i).0 e in none w.0 w.1 w.2)

-- a block of the set after a block was set is that block, or was there
pub set-starts : (s : List (Option ℕ)) (p k g j : ℕ) → p < length s → Starts (with_block s p k) g j → ((g ≡ p) × (j ≡ k)) ⊎ Starts s g j
set-starts s p k g j lt st = elim (cases_eq g p) [
  | inl e ↦ let d = rw (e, get_or-set_same s p (Some k) None lt) at st in inl (e, cc)
  | inr ne ↦ inr (sym (get_or-set_other s p g (Some k) None ne) ∙ st)
]

-- a block of the set after a block was cleared is another, and was there
pub clear-starts : (s : List (Option ℕ)) (p g j : ℕ) → p < length s → Starts (without_block s p) g j → (g ≢ p) × Starts s g j
clear-starts s p g j lt st = elim (cases_eq g p) [
  | inl e ↦ let d = rw (e, get_or-set_same s p None None lt) at st in absurd cc
  | inr ne ↦ (ne, sym (get_or-set_other s p g None None ne) ∙ st)
]

head_start : (m : ℕ) (s : List (Option ℕ)) (p k : ℕ) → IsBlock m (length s) p k → p < length s
head_start m s p k b = omega (arith, b.inside, pow_pos k)

-- a run beside the block that is set stays apart
pub set_still_apart : (m : ℕ) (s : List (Option ℕ)) (p k h j : ℕ) → IsBlock m (length s) p k → IsApart s h j → IsBeside h j p k → IsApart (with_block s p k) h j
set_still_apart m s p k h j b a beside i from to =
    uncovered-from (with_block s p k) i (λ o lt st. elim (set-starts s p k (head i o) o (head_start m s p k b) st) [
      | inl e ↦ let q : 2 ^ o ≡ 2 ^ k = rw e.1 refl in omega (arith, e.0, head_le i o, lt_head i o, beside)
      | inr old ↦ uncovered-to s i o (a i from to) (omega (arith, lt, length-set s p (Some k))) old
    ])

-- each run that was apart stays so where a block is cleared
pub clear_still_apart : (m : ℕ) (s : List (Option ℕ)) (p k h j : ℕ) → IsBlock m (length s) p k → IsApart s h j → IsApart (without_block s p) h j
clear_still_apart m s p k h j b a i from to =
    uncovered-from (without_block s p) i (λ o lt st. uncovered-to s i o (a i from to) (omega (arith, lt, length-set s p None)) (clear-starts s p (head i o) o (head_start m s p k b) st).1)

-- the pages of the block that is cleared are in no block then
pub clear_apart : (m : ℕ) (s : List (Option ℕ)) (p k : ℕ) → IsBlockSet m s → Starts s p k → IsApart (without_block s p) p k
clear_apart m s p k x st i from to =
    uncovered-from (without_block s p) i (λ o lt y.
    let old = clear-starts s p (head i o) o (head_start m s p k (x.block p k st)) y in
    old.0 (same_page m s (head i o) o p k i x old.1 st (head_le i o) (lt_head i o) from to))

-- of no blocks each run is apart
pub none_apart : (n h k : ℕ) → IsApart (replicate n None) h k
none_apart n h k i from to = uncovered-from (replicate n None) i (λ o lt st. no_start n (head i o) o st)

pub set_held : (m : ℕ) (s : List (Option ℕ)) (p k : ℕ) → IsBlock m (length s) p k → Starts (with_block s p k) p k
set_held m s p k b = get_or-set_same s p (Some k) None (head_start m s p k b)
