-- The bits of the blocks of a zone (this profile). A low word has 32 pages and their blocks below order 5, a high word the 32 low words of a
-- group and its blocks from order 5 on.
use Rattle.std.specs.Prelude.{ℕ, ◌+◌, ◌-◌, ◌*◌, ◌/◌, ◌%◌, ◌^◌, ◌≡◌, ◌≢◌, ◌≤◌, ◌<◌, ◌⊎◌, List, length, cond, ltb, slice_index, slice_set, Option, None, Some}
use Rattle.std.specs.Int.{bit_at}
use Rattle.zp_model.specs.Block.{IsBlock, head}
use Rattle.zp_tree.specs.declared.constants.TheConstants.{PLACES, WORD_LEVELS, GROUP_ORDER, GROUP_PAGES}
use Rattle.zp_tree.specs.Blocks.{buddy}
use Rattle.zp_tree.specs.Words.{node}

-- the bit of the block of order k at page i, by the low words and the high words
abbrev pub mark : List ℕ → List ℕ → ℕ → ℕ → ℕ
mark ls hs i k =
    cond (ltb k WORD_LEVELS) (bit_at (slice_index ls (i / PLACES)) (node (i % PLACES) k))
    (bit_at (slice_index hs (i / GROUP_PAGES)) (node (i / PLACES % PLACES) (k - WORD_LEVELS)))

-- a block of all pages of a low word stands in the high one
abbrev pub IsLowAlone : List ℕ → Type 0
IsLowAlone ls = (r : ℕ) → r < length ls → bit_at (slice_index ls r) 1 ≡ 0

-- the words of so many groups
pub record IsWords (ls hs : List ℕ) : Type 0 where
  pub size : length ls ≡ PLACES * length hs
  pub whole : IsLowAlone ls

-- the block of order k at page i can have a bit
abbrev pub IsInGroups : List ℕ → ℕ → ℕ → Type 0
IsInGroups hs i k = IsBlock GROUP_ORDER (GROUP_PAGES * length hs) i k

-- the words after the bit of the block of order k at page p became b
pub record IsRemarked (ls hs ms gs : List ℕ) (p k b : ℕ) : Type 0 where
  pub words : IsWords ms gs
  pub size : length gs ≡ length hs
  pub here : mark ms gs p k ≡ b
  pub others : (i j : ℕ) → IsInGroups hs i j → (i ≡ p → j ≡ k → ⊥) → mark ms gs i j ≡ mark ls hs i j

-- the words after the block of order f at page p was split down to order t, and its low part taken
pub record IsSplitUp (ls hs ms gs : List ℕ) (p f t : ℕ) : Type 0 where
  pub words : IsWords ms gs
  pub size : length gs ≡ length hs
  pub here : mark ms gs p f ≡ 0
  pub halves : (j : ℕ) → t ≤ j → j < f → mark ms gs (p + 2 ^ j) j ≡ 1
  pub others : (i j : ℕ) → IsInGroups hs i j → (i ≡ p → j ≡ f → ⊥) → (i ≡ p + 2 ^ j → t ≤ j → j < f → ⊥) → mark ms gs i j ≡ mark ls hs i j

-- the words after the run of order f at page p was joined with its buddies to the block of order t around it
pub record IsJoinedUp (ls hs ms gs : List ℕ) (p f t : ℕ) : Type 0 where
  pub words : IsWords ms gs
  pub size : length gs ≡ length hs
  pub here : mark ms gs (head p t) t ≡ 1
  pub buddies : (j : ℕ) → f ≤ j → j < t → mark ms gs (buddy p j) j ≡ 0
  pub others : (i j : ℕ) → IsInGroups hs i j → (i ≡ head p t → j ≡ t → ⊥) → (i ≡ buddy p j → f ≤ j → j < t → ⊥) → mark ms gs i j ≡ mark ls hs i j

-- the words after the block of order f around page p was split towards the page, down to order t, and the run of that order around it taken
pub record IsSplitTowards (ls hs ms gs : List ℕ) (p f t : ℕ) : Type 0 where
  pub words : IsWords ms gs
  pub size : length gs ≡ length hs
  pub here : mark ms gs (head p f) f ≡ 0
  pub buddies : (j : ℕ) → t ≤ j → j < f → mark ms gs (buddy p j) j ≡ 1
  pub others : (i j : ℕ) → IsInGroups hs i j → (i ≡ head p f → j ≡ f → ⊥) → (i ≡ buddy p j → t ≤ j → j < f → ⊥) → mark ms gs i j ≡ mark ls hs i j

-- some words after n of them, from word a on, were emptied
pub record AreEmptied (ws vs : List ℕ) (a n : ℕ) : Type 0 where
  pub size : length vs ≡ length ws
  pub here : (r : ℕ) → a ≤ r → r < a + n → slice_index vs r ≡ 0
  pub others : (r : ℕ) → (a ≤ r → r < a + n → ⊥) → slice_index vs r ≡ slice_index ws r

-- the words after those of group g were emptied
pub record IsGroupCleared (ls hs ms gs : List ℕ) (g : ℕ) : Type 0 where
  pub words : IsWords ms gs
  pub size : length gs ≡ length hs
  pub here : (i k : ℕ) → IsInGroups hs i k → i / GROUP_PAGES ≡ g → mark ms gs i k ≡ 0
  pub others : (i k : ℕ) → IsInGroups hs i k → i / GROUP_PAGES ≢ g → mark ms gs i k ≡ mark ls hs i k

-- the block of order k at page i is in the words
pub record HasMark (ls hs : List ℕ) (i k : ℕ) : Type 0 where
  pub inside : IsInGroups hs i k
  pub bit : mark ls hs i k ≡ 1

-- it is in the low words
pub record HasLow (ls : List ℕ) (i k : ℕ) : Type 0 where
  pub order : k < WORD_LEVELS
  pub aligned : i % 2 ^ k ≡ 0
  pub inside : i / PLACES < length ls
  pub bit : bit_at (slice_index ls (i / PLACES)) (node (i % PLACES) k) ≡ 1

-- it is in the high words
pub record HasHigh (hs : List ℕ) (i k : ℕ) : Type 0 where
  pub order : WORD_LEVELS ≤ k
  pub inside : IsInGroups hs i k
  pub bit : bit_at (slice_index hs (i / GROUP_PAGES)) (node (i / PLACES % PLACES) (k - WORD_LEVELS)) ≡ 1

-- r is the rank of the blocks of group g: 0 for none, else one more than their largest order
pub record IsRankOf (ls hs : List ℕ) (g r : ℕ) : Type 0 where
  pub most : (i k : ℕ) → HasMark ls hs i k → i / GROUP_PAGES ≡ g → k < r
  pub some : (k : ℕ) → r ≡ k + 1 → (i : ℕ) × HasMark ls hs i k × (i / GROUP_PAGES ≡ g)

-- no block of group g has a rank above r
abbrev pub IsRankBound : List ℕ → List ℕ → ℕ → ℕ → Type 0
IsRankBound ls hs g r = (i k : ℕ) → HasMark ls hs i k → i / GROUP_PAGES ≡ g → k < r

-- a block of group g stands in its high word
abbrev pub HasLarge : List ℕ → ℕ → Type 0
HasLarge hs g = (i : ℕ) × (k : ℕ) × HasHigh hs i k × (i / GROUP_PAGES ≡ g)

-- r is the rank of the blocks of group g, or a larger one where a block stands in its high word
abbrev pub IsNearRank : List ℕ → List ℕ → ℕ → ℕ → Type 0
IsNearRank ls hs g r = IsRankOf ls hs g r ⊎ (IsRankBound ls hs g r × HasLarge hs g)

-- the first block of order k or more of group g
abbrev pub IsFirstMark : List ℕ → List ℕ → ℕ → ℕ → Option (ℕ × ℕ) → Type 0
IsFirstMark ls hs g k None = (i o : ℕ) → HasMark ls hs i o → i / GROUP_PAGES ≡ g → o < k
IsFirstMark ls hs g k (Some b) =
    HasMark ls hs b.0 b.1 × (b.0 / GROUP_PAGES ≡ g) × (k ≤ b.1) × ((i o : ℕ) → HasMark ls hs i o → i / GROUP_PAGES ≡ g → i < b.0 → o < k)

-- the first block of order k or more in the n low words from word a on
abbrev pub IsFirstLow : List ℕ → ℕ → ℕ → ℕ → Option (ℕ × ℕ) → Type 0
IsFirstLow ls a n k None = (i o : ℕ) → HasLow ls i o → a ≤ i / PLACES → i / PLACES < a + n → o < k
IsFirstLow ls a n k (Some b) =
    HasLow ls b.0 b.1 × (a ≤ b.0 / PLACES) × (b.0 / PLACES < a + n) × (k ≤ b.1)
    × ((i o : ℕ) → HasLow ls i o → a ≤ i / PLACES → i < b.0 → o < k)

-- the first block of order k or more in the high word of group g
abbrev pub IsFirstHigh : List ℕ → ℕ → ℕ → Option (ℕ × ℕ) → Type 0
IsFirstHigh hs g k None = (i o : ℕ) → HasHigh hs i o → i / GROUP_PAGES ≡ g → o < k
IsFirstHigh hs g k (Some b) =
    HasHigh hs b.0 b.1 × (b.0 / GROUP_PAGES ≡ g) × (k ≤ b.1) × ((i o : ℕ) → HasHigh hs i o → i / GROUP_PAGES ≡ g → i < b.0 → o < k)

-- how many low words of its group come before a block, or all of them
abbrev pub words_before : Option (ℕ × ℕ) → ℕ
words_before None = PLACES
words_before (Some b) = b.0 / PLACES % PLACES

-- the order of a level of a word whose places have order b
abbrev pub order_at : Option ℕ → ℕ → Option ℕ
order_at None b = None
order_at (Some l) b = Some (l + b)

-- the largest order of a block in the run of order r at page a
abbrev pub IsLargestMark : List ℕ → List ℕ → ℕ → ℕ → Option ℕ → Type 0
IsLargestMark ls hs a r None = (i k : ℕ) → HasMark ls hs i k → a ≤ i → i + 2 ^ k ≤ a + 2 ^ r → ⊥
IsLargestMark ls hs a r (Some j) =
    ((i : ℕ) × HasMark ls hs i j × (a ≤ i) × (i + 2 ^ j ≤ a + 2 ^ r))
    × ((i k : ℕ) → HasMark ls hs i k → a ≤ i → i + 2 ^ k ≤ a + 2 ^ r → k ≤ j)

-- the ranks after that of group g was reckoned anew
pub record IsReranked (ls hs rs ts : List ℕ) (g : ℕ) : Type 0 where
  pub rank : ℕ
  pub after : ts ≡ slice_set rs g rank
  pub is : IsRankOf ls hs g rank

-- the ranks serve a search for blocks of order k or more, though that of group x may have been too large: it was reckoned anew, or k is at
-- most 5. A group whose rank is too large has a block of order 5 or more
abbrev pub IsFit : List ℕ → List ℕ → List ℕ → List ℕ → ℕ → ℕ → Type 0
IsFit ls hs rs ts x k = ((k ≤ WORD_LEVELS) × (ts ≡ rs)) ⊎ IsReranked ls hs rs ts x

-- r is still a rank to keep for group g, of which a block of order k was cleared: a larger block is left, or y, the stale group, is g. Where
-- k is 5 or more, so that the block stood in the high word, one is left there
abbrev pub CanStay : List ℕ → ℕ → ℕ → ℕ → ℕ → Type 0
CanStay hs y g k r = ((k < WORD_LEVELS) × (k + 1 < r)) ⊎ (HasLarge hs g × ((k + 1 < r) ⊎ (y ≡ g)))

-- the ranks after a block of order k of group g was cleared, and the stale group y, which was x: each rank is what the words tell, or as it
-- was, where it can stay and no stale one is lost sight of
pub record IsLowered (ls hs rs ts : List ℕ) (x y g k : ℕ) : Type 0 where
  pub size : length ts ≡ length rs
  pub stale : (y ≡ x) ⊎ (y ≡ g)
  pub ranks : (h : ℕ) → IsRankOf ls hs h (slice_index ts h) ⊎ ((slice_index ts h ≡ slice_index rs h) × (h ≡ x → y ≡ x) × (h ≡ g → CanStay hs y g k (slice_index rs g)))
