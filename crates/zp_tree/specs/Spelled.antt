-- The block set that a status tree stands for (this profile): its bits spell it.
use Rattle.std.specs.Prelude.{ℕ, ◌+◌, ◌*◌, ◌/◌, ◌^◌, ◌%◌, ◌≡◌, ◌≤◌, ◌<◌, ◌==◌, ◌&&◌, ◌⊎◌, ◌↔◌, List, length, map, Bool, Option, slice_index}
use Rattle.std.specs.List.{range_with_len, find}
use Rattle.zp_model.specs.BlockSet.{Starts}
use Rattle.zp_model.specs.declared.constants.TheConstants.{MAX_PAGES}
use Rattle.zp_tree.specs.declared.constants.TheConstants.{FAN, WORD_LEVELS, GROUP_ORDER, GROUP_PAGES, MOST_GROUPS}
use Rattle.zp_tree.specs.Blocks.{IsBlockSet}
use Rattle.zp_tree.specs.Marks.{mark, IsWords, IsInGroups}
use Rattle.zp_tree.specs.Reads.{rows_of}

-- whether a block of order k starts at page i
abbrev pub begins : List ℕ → List ℕ → ℕ → ℕ → Bool
begins ls hs i k = (i % 2 ^ k == 0) && (mark ls hs i k == 1)

-- for each page the order of the block that begins there
unfoldable pub spelled : ℕ → List ℕ → List ℕ → List (Option ℕ)
spelled pages ls hs = map (λ i. find (begins ls hs i) (range_with_len 0 (GROUP_ORDER + 1))) (range_with_len 0 pages)

-- r is the rank of the blocks of the set in group g: 0 for none, else one more than their largest order
pub record IsRankIn (s : List (Option ℕ)) (g r : ℕ) : Type 0 where
  pub most : (i k : ℕ) → i / GROUP_PAGES ≡ g → Starts s i k → k < r
  pub some : (k : ℕ) → r ≡ k + 1 → (i : ℕ) × (i / GROUP_PAGES ≡ g) × Starts s i k

-- r is a stale rank of group g: it may be too large. A block of the group has order 5 or more, so its high word is not empty
pub record IsStaleIn (s : List (Option ℕ)) (g r : ℕ) : Type 0 where
  pub most : (i k : ℕ) → i / GROUP_PAGES ≡ g → Starts s i k → k < r
  pub large : (i : ℕ) × (k : ℕ) × (i / GROUP_PAGES ≡ g) × (WORD_LEVELS ≤ k) × Starts s i k

-- r is what is kept of group g: its rank, or for group x a stale one
abbrev pub IsKeptIn : List (Option ℕ) → ℕ → ℕ → ℕ → Type 0
IsKeptIn s x g r = IsRankIn s g r ⊎ ((g ≡ x) × IsStaleIn s g r)

-- the words and the groups' ranks are those of the block set, where no block has an order above m; only the rank of group x may be stale
pub record IsTreeOf (m pages : ℕ) (ls hs rs : List ℕ) (x : ℕ) (s : List (Option ℕ)) : Type 0 where
  pub orders : m ≤ GROUP_ORDER
  pub bounds : pages ≤ MAX_PAGES
  pub groups : length hs ≤ MOST_GROUPS
  pub room : pages ≤ GROUP_PAGES * length hs
  pub pages_of : length s ≡ pages
  pub set : IsBlockSet m s
  pub words : IsWords ls hs
  pub marked : (i k : ℕ) → IsInGroups hs i k → (mark ls hs i k ≡ 1) ↔ Starts s i k
  pub rows : length hs ≤ length rs
  pub row : length rs ≡ FAN ^ rows_of pages
  pub stale : x < length hs
  pub ranked : (g : ℕ) → IsKeptIn s x g (slice_index rs g)
