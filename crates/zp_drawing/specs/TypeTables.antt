-- The text of /proc/pagetypeinfo, as bytes: what it says first, a table of the zones' free blocks by type and order, and one of their pageblocks
-- by type (Linux's mm/vmstat.c: pagetypeinfo_show, pagetypeinfo_showfree_print and pagetypeinfo_showblockcount_print, whose formats stand in
-- brackets; that all zones are of node 0 is this profile's).
use Rattle.std.specs.Prelude.{ℕ, ◌+◌, ◌-◌, ◌^◌, List, [], ◌∷◌, ◌++◌, length, replicate, take, codes, slice_index, slice_index_or}
use Rattle.std.specs.List.{concat, flat_map, range_with_len}
use Rattle.std.specs.Fmt.{decimal}
use Rattle.zp_model.specs.declared.constants.TheConstants.{NAME_PLACES}
use Rattle.zp_model.specs.declared.pageblock_type.PageblockType.{PageblockType}
use Rattle.zp_model.specs.declared.pageblock_type.PageblockType.TheVariants.{Unmovable, Reclaimable, Movable, Isolate}
use Rattle.zp_model.specs.Info.{space, right_aligned, number_field}
use Rattle.zp_model.specs.PageblockType.{pageblock_type_number}
use Rattle.zp_drawing.specs.declared.type_tables.TypeCounts.{TypeCounts}

-- the types in the order of both tables, and their names there (migratetype_names, of mm/page_alloc.c)
abbrev pub table_types : List PageblockType
table_types = Unmovable ∷ Movable ∷ Reclaimable ∷ Isolate ∷ []

abbrev pub type_name : PageblockType → List ℕ
type_name Unmovable = codes "Unmovable"
type_name Movable = codes "Movable"
type_name Reclaimable = codes "Reclaimable"
type_name Isolate = codes "Isolate"

-- a zone's free blocks in pageblocks of a type, by order; and its pageblocks of the type
abbrev pub free_of : TypeCounts → PageblockType → List ℕ
free_of z t = slice_index_or z.free (pageblock_type_number t) []

abbrev pub pageblocks_of : TypeCounts → PageblockType → ℕ
pageblocks_of z t = slice_index z.pageblocks (pageblock_type_number t)

-- a text left-aligned in so many places
abbrev pub left_aligned : ℕ → List ℕ → List ℕ
left_aligned places text = text ++ replicate (places - length text) space

-- the name of a type, or a count of pageblocks, right-aligned in twelve places, and a space ["%12s ", "%12lu "]
abbrev pub type_field : List ℕ → List ℕ
type_field text = right_aligned 12 text ++ space ∷ []

-- the lines that stand first: how large a pageblock is ["Page block order: %d", "Pages per block:  %lu"]
abbrev pub order_line : ℕ → List ℕ
order_line largest = concat (codes "Page block order: " ∷ decimal largest ∷ codes "\n" ∷ [])

abbrev pub pages_line : ℕ → List ℕ
pages_line largest = concat (codes "Pages per block:  " ∷ decimal (2 ^ largest) ∷ codes "\n\n" ∷ [])

-- the head of the first table: a number for each order ["%-43s ", "%6d "]
abbrev pub free_title : List ℕ
free_title = concat (left_aligned 43 (codes "Free pages count per migrate type at order") ∷ codes " " ∷ [])

unfoldable pub free_head : ℕ → List ℕ
free_head largest = concat (free_title ∷ flat_map number_field (range_with_len 0 (largest + 1)) ∷ codes "\n" ∷ [])

-- the line of a zone and a type in the first table: the free blocks of each order up to the largest
-- ["Node %4d, zone %8s, type %12s ", "%6lu "]
unfoldable pub free_line : ℕ → TypeCounts → PageblockType → List ℕ
free_line largest z t =
    concat (codes "Node    0, zone " ∷ right_aligned NAME_PLACES z.name ∷ codes ", type " ∷ type_field (type_name t)
    ∷ flat_map number_field (take (largest + 1) (free_of z t)) ∷ codes "\n" ∷ [])

-- the lines of a zone
unfoldable pub free_lines : ℕ → TypeCounts → List ℕ
free_lines largest z = flat_map (free_line largest z) table_types

-- the head of the second table: the names of the types ["\n%-23s", "%12s "]
abbrev pub pageblocks_title : List ℕ
pageblocks_title = concat (codes "\n" ∷ left_aligned 23 (codes "Number of blocks type ") ∷ [])

unfoldable pub pageblocks_head : List ℕ
pageblocks_head =
    concat (pageblocks_title ∷ flat_map (λ t. type_field (type_name t)) table_types ∷ codes "\n" ∷ [])

-- the line of a zone in the second table ["Node %d, zone %8s ", "%12lu "]
unfoldable pub pageblocks_line : TypeCounts → List ℕ
pageblocks_line z =
    concat (codes "Node 0, zone " ∷ right_aligned NAME_PLACES z.name ∷ codes " "
    ∷ flat_map (λ t. type_field (decimal (pageblocks_of z t))) table_types ∷ codes "\n" ∷ [])

-- both tables of these zones, the largest of whose largest blocks has this order
abbrev pub type_tables : ℕ → List TypeCounts → List ℕ
type_tables largest zones =
    concat (order_line largest ∷ pages_line largest ∷ free_head largest ∷ flat_map (free_lines largest) zones
    ∷ pageblocks_head ∷ flat_map pageblocks_line zones ∷ [])
