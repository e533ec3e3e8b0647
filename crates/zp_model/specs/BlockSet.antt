-- Sets of blocks as plain data: for each page of the zone, the order of the block of the set that starts there.
use Rattle.std.specs.Prelude.{ℕ, suc, zero, ◌+◌, ◌-◌, ◌^◌, ◌≡◌, ◌==◌, ◌||◌, Bool, false, List, [], ◌∷◌, length, map, cond, max, slice_index_or, leb, Option, None, Some}
use Rattle.std.specs.List.{range_with_len, find}
use Rattle.std.specs.Option.{option_or}
use Rattle.zp_model.specs.Block.{head, is_max}

-- whether a test passes at some number below n
abbrev pub some_below : (ℕ → Bool) → ℕ → Bool
some_below test zero = false
some_below test (suc n) = test n || some_below test n

-- the first answer that one of the places gives
abbrev pub first_of : {X Y : Type 0} → (X → Option Y) → List X → Option Y
first_of at [] = None
first_of at (x ∷ xs) = option_or (at x) (first_of at xs)

-- the block (h, k) is in the set
abbrev pub Starts : List (Option ℕ) → ℕ → ℕ → Type 0
Starts s h k = slice_index_or s h None ≡ Some k

abbrev pub is_order : ℕ → Option ℕ → Bool
is_order k None = false
is_order k (Some j) = j == k

-- whether page i lies in some block of the set. A block of order k has 2 to the k pages, so in a zone of n pages its order is below n.
abbrev pub is_covered : List (Option ℕ) → ℕ → Bool
is_covered s i = some_below (λ k. is_order k (slice_index_or s (head i k) None)) (length s)

-- the pages of the blocks of the set
unfoldable pub cover : List (Option ℕ) → List Bool
cover s = map (is_covered s) (range_with_len 0 (length s))

-- the orders from k to m, the least first
abbrev pub orders_from : ℕ → ℕ → List ℕ
orders_from m k = range_with_len k (m + 1 - k)

-- the maximal blocks of a page set, where no block has an order above m
unfoldable pub max_blocks : ℕ → List Bool → List (Option ℕ)
max_blocks m u = map (λ h. find (is_max m u h) (orders_from m 0)) (range_with_len 0 (length u))

-- the block that starts at h, where one does that passes the test
abbrev pub block_if : (ℕ → ℕ → Bool) → ℕ → Option ℕ → Option (ℕ × ℕ)
block_if test h None = None
block_if test h (Some k) = cond (test h k) (Some (h, k)) None

-- the block of order k or more with the least head
unfoldable pub lowest : List (Option ℕ) → ℕ → Option (ℕ × ℕ)
lowest s k = first_of (λ h. block_if (λ g j. leb k j) h (slice_index_or s h None)) (range_with_len 0 (length s))

-- the larger of two orders, where there are any
abbrev pub larger : Option ℕ → Option ℕ → Option ℕ
larger None q = q
larger (Some j) None = Some j
larger (Some j) (Some k) = Some (max j k)

-- the greatest of some orders
abbrev pub greatest : List (Option ℕ) → Option ℕ
greatest [] = None
greatest (o ∷ os) = larger o (greatest os)

abbrev pub order_of : Option (ℕ × ℕ) → Option ℕ
order_of None = None
order_of (Some b) = Some b.1

-- the greatest order of a block whose pages all lie in the run of order r at a
unfoldable pub largest_in : List (Option ℕ) → ℕ → ℕ → Option ℕ
largest_in s a r =
    greatest (map (λ h. order_of (block_if (λ g j. leb (g + 2 ^ j) (a + 2 ^ r)) h (slice_index_or s h None))) (range_with_len a (2 ^ r)))

-- the greatest order of a block of the set
abbrev pub largest : List (Option ℕ) → Option ℕ
largest s = greatest s
