-- Pages, runs of pages, blocks and the maximal blocks of a set of pages (Knowlton 1965). Pages are counted from the zone's base.
use Rattle.std.specs.Prelude.{ℕ, suc, zero, ◌+◌, ◌*◌, ◌/◌, ◌%◌, ◌^◌, ◌≡◌, ◌≤◌, ◌==◌, ◌&&◌, ◌||◌, ◌⊎◌, not, Bool, true, false, List, map, length, slice_index_or, leb, ltb}
use Rattle.std.specs.List.{range_with_len, count_by}

-- whether a test passes at each number below n
abbrev pub all_below : (ℕ → Bool) → ℕ → Bool
all_below test zero = true
all_below test (suc n) = test n && all_below test n

-- whether page i is in a set of pages of a zone, which has one mark for each page of the zone, true where the page is in the set; a page past
-- the zone's end is in no set
abbrev pub has : List Bool → ℕ → Bool
has u i = slice_index_or u i false

-- whether page i lies in the run of order k from page h on, which has 2 to the k pages
abbrev pub in_run : ℕ → ℕ → ℕ → Bool
in_run h k i = leb h i && ltb i (h + 2 ^ k)

-- whether that run lies in the set
unfoldable pub has_run : List Bool → ℕ → ℕ → Bool
has_run u h k = all_below (λ i. has u (h + i)) (2 ^ k)

-- the start of the aligned run of order k around page i: i with its low k bits cleared
abbrev pub head : ℕ → ℕ → ℕ
head i k = i / 2 ^ k * 2 ^ k

-- c is the buddy of the run (b, j), and d the head of their double
pub record IsBuddy (b j c d : ℕ) : Type 0 where
  pub double : d % 2 ^ (j + 1) ≡ 0
  pub halves : ((b ≡ d) × (c ≡ d + 2 ^ j)) ⊎ ((c ≡ d) × (b ≡ d + 2 ^ j))

-- (h, k) is a block of a zone with so many pages, where the largest block has order m
pub record IsBlock (m pages h k : ℕ) : Type 0 where
  pub order : k ≤ m
  pub aligned : h % 2 ^ k ≡ 0
  pub inside : h + 2 ^ k ≤ pages

-- whether (h, k) is a maximal block of the set, where no block has an order above m: it lies in the set, and it has order m
-- or its double, the run of the next order around it, does not. No page past the end is in a set, so the block lies in the
-- zone, and a double past the end does not lie in the set. Nothing is joined here.
unfoldable pub is_max : ℕ → List Bool → ℕ → ℕ → Bool
is_max m u h k =
    leb k m && (h % 2 ^ k == 0) && has_run u h k && (k == m || not (has_run u (head h (k + 1)) (k + 1)))

-- the set without the pages of a run, and with them
unfoldable pub without : List Bool → ℕ → ℕ → List Bool
without u h k = map (λ i. has u i && not (in_run h k i)) (range_with_len 0 (length u))

unfoldable pub with_run : List Bool → ℕ → ℕ → List Bool
with_run u h k = map (λ i. has u i || in_run h k i) (range_with_len 0 (length u))

-- how many pages the set has
unfoldable pub size : List Bool → ℕ
size u = count_by (λ b. b) u
