-- The free area of a zone: its free pages, the types of its pageblocks, its free lists, and what settling makes of the lists
-- (Gorman, chapter 6, for the lists by order; the order of the heads and the types are this profile's).
use Rattle.std.specs.Prelude.{ℕ, suc, zero, ◌+◌, ◌-◌, ◌*◌, ◌/◌, ◌%◌, ◌^◌, ◌==◌, ◌&&◌, not, Bool, true, List, [], ◌∷◌, ◌++◌, length, map, replicate, filter, slice_index_or, cond, Option, None}
use Rattle.std.specs.List.{range_with_len, count_by}
use Rattle.zp_model.specs.declared.pageblock_type.PageblockType.{PageblockType}
use Rattle.zp_model.specs.declared.pageblock_type.PageblockType.TheVariants.{Movable}
use Rattle.zp_model.specs.Block.{has, is_max}
use Rattle.zp_model.specs.PageblockType.{is_isolate, pageblock_type_number, pageblock_types}
use Rattle.zp_model.specs.Rows.{list_at, stands_in}

-- the pages of a pageblock, which is as large as the largest block
abbrev pub pageblock_pages : ℕ → ℕ
pageblock_pages m = 2 ^ m

pub record Area : Type 0 where
  -- the order of the largest block
  pub largest : ℕ
  -- for each page of the zone, whether it is free
  pub free : List Bool
  -- the type of each pageblock
  pub kinds : List PageblockType
  -- the heads on each free list, the front first, by the numbers of the lists
  pub lists : List (List ℕ)

-- how many pageblocks a zone has; the last one may be short
abbrev pub pageblocks_of : ℕ → ℕ → ℕ
pageblocks_of m pages = (pages + (pageblock_pages m - 1)) / pageblock_pages m

-- the type of page h's pageblock
abbrev pub kind_at : ℕ → List PageblockType → ℕ → PageblockType
kind_at m kinds h = slice_index_or kinds (h / pageblock_pages m) Movable

-- the number of the list of order k and type t, and how many lists there are
abbrev pub list_number : ℕ → PageblockType → ℕ
list_number k t = pageblock_types * k + pageblock_type_number t

abbrev pub lists_count : ℕ → ℕ
lists_count m = pageblock_types * (m + 1)

abbrev pub free_list : Area → ℕ → PageblockType → List ℕ
free_list a k t = list_at a.lists (list_number k t)

-- the numbers below n, the highest first
abbrev pub falling : ℕ → List ℕ
falling zero = []
falling (suc n) = n ∷ falling n

-- whether page h belongs on list r: it heads a maximal block of the free pages, of the list's order, in a pageblock of the
-- list's type
unfoldable pub belongs : ℕ → List Bool → List PageblockType → ℕ → ℕ → Bool
belongs m free kinds r h = is_max m free h (r / pageblock_types) && (pageblock_type_number (kind_at m kinds h) == r % pageblock_types)

-- a list, settled: first the heads that belong and were not on it, the highest first, then those of the old ones that still
-- belong, in their old order
unfoldable pub settled : ℕ → List Bool → List PageblockType → ℕ → List ℕ → List ℕ
settled m free kinds r old =
    filter (λ h. belongs m free kinds r h && not (stands_in h old)) (falling (length free)) ++ filter (belongs m free kinds r) old

-- the area with these free pages and types, and its lists settled
unfoldable pub settle : Area → Area
settle a =
    record a { lists = map (λ r. settled a.largest a.free a.kinds r (list_at a.lists r)) (range_with_len 0 (lists_count a.largest)) }

-- all pages free, and all pageblocks Movable, where the largest block has order m
unfoldable pub opening : ℕ → ℕ → Area
opening m pages =
    settle (record {
      largest = m;
      free = replicate pages true;
      kinds = replicate (pageblocks_of m pages) Movable;
      lists = replicate (lists_count m) [];
    })

-- whether page h lies in an isolated pageblock
abbrev pub is_isolated : ℕ → List PageblockType → ℕ → Bool
is_isolated m kinds h = is_isolate (kind_at m kinds h)

-- the pages of a set that lie outside isolated pageblocks
unfoldable pub available : ℕ → List PageblockType → List Bool → List Bool
available m kinds u = map (λ h. has u h && not (is_isolated m kinds h)) (range_with_len 0 (length u))

-- the blocks of a set that lie outside isolated pageblocks; each block lies in one pageblock
unfoldable pub available_blocks : ℕ → List PageblockType → List (Option ℕ) → List (Option ℕ)
available_blocks m kinds s = map (λ h. cond (is_isolated m kinds h) None (slice_index_or s h None)) (range_with_len 0 (length s))

-- how many pages of the set lie in a pageblock
unfoldable pub size_in : ℕ → List Bool → ℕ → ℕ
size_in m u pageblock = count_by (λ i. has u i) (range_with_len (pageblock * pageblock_pages m) (pageblock_pages m))
