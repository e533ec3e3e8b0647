-- What holds of maximal blocks: each page lies in one of them, and unjoined blocks are the maximal blocks of their pages.
use Rattle.std.specs.Prelude.{ℕ, ◌+◌, ◌%◌, ◌^◌, ◌≡◌, ◌≤◌, ◌<◌, ◌↔◌, Bool, true, List, length, Option}
use Rattle.zp_model.specs.Block.{has, is_max, in_run}
use Rattle.zp_model.specs.BlockSet.{Starts, cover}

-- page i lies in (h, k), a maximal block of the set
abbrev pub LiesIn : ℕ → List Bool → ℕ → ℕ → ℕ → Type 0
LiesIn m u i h k = (is_max m u h k ≡ true) × (in_run h k i ≡ true)

-- each page of a set lies in exactly one of its maximal blocks, whatever the largest order
abbrev pub EachPageInOneBlock : Type 0
EachPageInOneBlock =
    (m : ℕ) (u : List Bool) (i : ℕ) → has u i ≡ true →
    (h : ℕ) × (k : ℕ) × LiesIn m u i h k × ((g j : ℕ) → LiesIn m u i g j → (g ≡ h) × (j ≡ k))

-- aligned blocks of the zone with no page in common, of which no two are buddies that could be joined, where no block has an order
-- above m
pub record IsUnjoined (m : ℕ) (s : List (Option ℕ)) : Type 0 where
  pub order : (h k : ℕ) → Starts s h k → k ≤ m
  pub aligned : (h k : ℕ) → Starts s h k → h % 2 ^ k ≡ 0
  pub inside : (h k : ℕ) → Starts s h k → h + 2 ^ k ≤ length s
  pub apart : (h k g j i : ℕ) → Starts s h k → Starts s g j → in_run h k i ≡ true → in_run g j i ≡ true → h ≡ g
  pub buddies : (h k : ℕ) → k < m → h % 2 ^ (k + 1) ≡ 0 → Starts s h k → Starts s (h + 2 ^ k) k → ⊥

-- such blocks are the maximal blocks of their pages, whatever the largest order
abbrev pub UnjoinedAreMaximal : Type 0
UnjoinedAreMaximal =
    (m : ℕ) (s : List (Option ℕ)) → IsUnjoined m s → (h k : ℕ) → Starts s h k ↔ (is_max m (cover s) h k ≡ true)
