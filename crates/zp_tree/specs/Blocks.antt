-- Sets of blocks that share no page (Knowlton 1965): when a list of the kind of `zp_model`'s `BlockSet` is one, and what one block more or
-- less makes of it.
use Rattle.std.specs.Prelude.{ℕ, suc, zero, ◌+◌, ◌-◌, ◌*◌, ◌/◌, ◌^◌, ◌≡◌, ◌≤◌, ◌<◌, ◌==◌, ◌⊎◌, Bool, true, false, cond, List, length, map, Option, None, Some, slice_index_or, slice_set}
use Rattle.std.specs.List.{range_with_len}
use Rattle.zp_model.specs.Block.{IsBlock, head, in_run}
use Rattle.zp_model.specs.BlockSet.{Starts, is_covered}
use Rattle.zp_model.specs.RunLaws.{half_beside}
use Rattle.zp_tree.specs.declared.constants.TheConstants.{GROUP_ORDER, GROUP_PAGES}

-- each block lies in the zone and has an order of at most m, and no two have a page in common
pub record IsBlockSet (m : ℕ) (s : List (Option ℕ)) : Type 0 where
  pub block : (h k : ℕ) → Starts s h k → IsBlock m (length s) h k
  pub apart : (h k g j i : ℕ) → Starts s h k → Starts s g j → in_run h k i ≡ true → in_run g j i ≡ true → h ≡ g

-- no page of the run of order k at h is in a block of the set
abbrev pub IsApart : List (Option ℕ) → ℕ → ℕ → Type 0
IsApart s h k = (i : ℕ) → h ≤ i → i < h + 2 ^ k → is_covered s i ≡ false

-- the run of order k at h and that of order j at g have no page in common
abbrev pub IsBeside : ℕ → ℕ → ℕ → ℕ → Type 0
IsBeside h k g j = (h + 2 ^ k ≤ g) ⊎ (g + 2 ^ j ≤ h)

-- the set with the block (h, k), and without the block at h
abbrev pub with_block : List (Option ℕ) → ℕ → ℕ → List (Option ℕ)
with_block s h k = slice_set s h (Some k)

abbrev pub without_block : List (Option ℕ) → ℕ → List (Option ℕ)
without_block s h = slice_set s h None

-- the set with d high halves of blocks at h, the last of order k
abbrev pub high_halves : List (Option ℕ) → ℕ → ℕ → ℕ → List (Option ℕ)
high_halves s h k zero = s
high_halves s h k (suc d) = high_halves (with_block s (h + 2 ^ (k + d)) (k + d)) h k d

-- the set with the high halves of the block (h, o) down to order k in its place: its low part of order k is in no block
abbrev pub split_set : List (Option ℕ) → ℕ → ℕ → ℕ → List (Option ℕ)
split_set s h o k = high_halves (without_block s h) h k (o - k)

-- the set with the d halves in which page h does not lie, of the runs around it of orders k + d down to k + 1, in this order
abbrev pub with_halves_beside : List (Option ℕ) → ℕ → ℕ → ℕ → List (Option ℕ)
with_halves_beside s h k zero = s
with_halves_beside s h k (suc d) = with_halves_beside (with_block s (half_beside h (k + d)) (k + d)) h k d

-- the set without the block of order o around page h, and with the halves that halving it down to the run of order k around the page leaves: that
-- run is in no block
abbrev pub split_towards_set : List (Option ℕ) → ℕ → ℕ → ℕ → List (Option ℕ)
split_towards_set s h o k = with_halves_beside (without_block s (head h o)) h k (o - k)

-- the other half of the double of the run of order k around page h
abbrev pub buddy : ℕ → ℕ → ℕ
buddy h k = 2 * head h (k + 1) + 2 ^ k - head h k

-- the set without the buddies of d runs around page h, the first of order k
abbrev pub without_buddies : List (Option ℕ) → ℕ → ℕ → ℕ → List (Option ℕ)
without_buddies s h k zero = s
without_buddies s h k (suc d) = without_block (without_buddies s h k d) (buddy h (k + d))

-- the buddies of the runs of orders k up to below o around page h are blocks of the set
abbrev pub HasBuddies : List (Option ℕ) → ℕ → ℕ → ℕ → Type 0
HasBuddies s h k o = (j : ℕ) → k ≤ j → j < o → Starts s (buddy h j) j

-- the set with the block of order o around page h in the place of the buddies with which the run of order k at h makes it
abbrev pub joined_set : List (Option ℕ) → ℕ → ℕ → ℕ → List (Option ℕ)
joined_set s h k o = with_block (without_buddies s h k (o - k)) (head h o) o

-- whether page i is one of group g
abbrev pub is_in_group : ℕ → ℕ → Bool
is_in_group g i = i / GROUP_PAGES == g

-- the set without the blocks of group g
abbrev pub without_group : List (Option ℕ) → ℕ → List (Option ℕ)
without_group s g = map (λ i. cond (is_in_group g i) None (slice_index_or s i None)) (range_with_len 0 (length s))

-- none of the groups from g on to before group e has a block of order k or more
abbrev pub IsBare : List (Option ℕ) → ℕ → ℕ → ℕ → Type 0
IsBare s k g e = (h j : ℕ) → Starts s h j → g ≤ h / GROUP_PAGES → h / GROUP_PAGES < e → j < k

-- each of them is one block
abbrev pub IsWhole : List (Option ℕ) → ℕ → ℕ → Type 0
IsWhole s g e = (x : ℕ) → g ≤ x → x < e → Starts s (GROUP_PAGES * x) GROUP_ORDER

-- group g has a block of order k or more
abbrev pub HasBlockOf : List (Option ℕ) → ℕ → ℕ → Type 0
HasBlockOf s g k = (h : ℕ) × (j : ℕ) × Starts s h j × (h / GROUP_PAGES ≡ g) × (k ≤ j)
