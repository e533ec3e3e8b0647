-- Counts of free blocks, and the line that shows them (the shape of /proc/buddyinfo; its bytes are this profile's; the numbers by type are those of
-- /proc/pagetypeinfo).
use Rattle.std.specs.Prelude.{ℕ, ◌+◌, ◌-◌, ◌==◌, Bool, List, [], ◌∷◌, ◌++◌, length, map, replicate, take, codes}
use Rattle.std.specs.List.{range_with_len, count_by, flat_map}
use Rattle.std.specs.Fmt.{decimal}
use Rattle.zp_model.specs.declared.counts.Counts.{Counts}
use Rattle.zp_model.specs.declared.counts.CountsByType.{CountsByType}
use Rattle.zp_model.specs.declared.pageblock_type.PageblockType.{PageblockType}
use Rattle.zp_model.specs.declared.pageblock_type.PageblockType.TheVariants.{Unmovable, Reclaimable, Movable, Isolate}
use Rattle.zp_model.specs.declared.constants.TheConstants.{NAME_PLACES, NUMBER_PLACES, ORDERS}
use Rattle.zp_model.specs.PageblockType.{pageblock_type_number}
use Rattle.zp_model.specs.Block.{is_max, size}
use Rattle.zp_model.specs.Area.{belongs, list_number}

-- how many maximal blocks of order k the free pages have
unfoldable pub blocks_of_order : ℕ → List Bool → ℕ → ℕ
blocks_of_order m free k = count_by (λ h. is_max m free h k) (range_with_len 0 (length free))

-- the counts of each order that a zone can have, the least first, and of the free pages; no block has an order above m
abbrev pub counts_of : ℕ → List Bool → Counts
counts_of m free = record { by_order = map (blocks_of_order m free) (range_with_len 0 ORDERS); free = size free }

-- how many of the free pages head a block of this order in a pageblock of this type: those that belong on the list of both
unfoldable pub blocks_of_type : ℕ → List Bool → List PageblockType → PageblockType → ℕ → ℕ
blocks_of_type m free kinds t k = count_by (belongs m free kinds (list_number k t)) (range_with_len 0 (length free))

-- how many pageblocks have this type
abbrev pub pageblocks_of_type : List PageblockType → PageblockType → ℕ
pageblocks_of_type kinds t = count_by (λ s. pageblock_type_number s == pageblock_type_number t) kinds

-- the types by their numbers
abbrev pub all_pageblock_types : List PageblockType
all_pageblock_types = Unmovable ∷ Reclaimable ∷ Movable ∷ Isolate ∷ []

-- the counts of each type: its blocks of each order that a zone can have, the least first, and its pageblocks (the numbers of /proc/pagetypeinfo)
abbrev pub counts_by_type : ℕ → List Bool → List PageblockType → CountsByType
counts_by_type m free kinds = record {
  free = map (λ t. map (blocks_of_type m free kinds t) (range_with_len 0 ORDERS)) all_pageblock_types;
  pageblocks = map (pageblocks_of_type kinds) all_pageblock_types;
}

abbrev pub space : ℕ
space = 32

abbrev pub line_feed : ℕ
line_feed = 10

-- a text right-aligned in so many places; a longer one stands whole
abbrev pub right_aligned : ℕ → List ℕ → List ℕ
right_aligned places text = replicate (places - length text) space ++ text

-- one number of the line: right-aligned in its places, and a space
abbrev pub number_field : ℕ → List ℕ
number_field n = right_aligned NUMBER_PLACES (decimal n) ++ space ∷ []

-- the line of a zone of this name whose largest order is m: a number for each order from 0 to m
abbrev pub info_line : List ℕ → ℕ → Counts → List ℕ
info_line name m c =
    codes "Node 0, zone " ++ (right_aligned NAME_PLACES name ++ (space ∷ (flat_map number_field (take (m + 1) c.by_order) ++ line_feed ∷ [])))
