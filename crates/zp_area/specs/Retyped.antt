-- A pageblock that gets another type (this profile). The largest block has order m.
use Rattle.std.specs.Prelude.{ℕ, ◌/◌, ◌%◌, ◌==◌, ◌&&◌, not, Bool, List, ◌++◌, length, map, drop, filter, slice_index_or, slice_set, Option, None}
use Rattle.std.specs.List.{range_with_len}
use Rattle.zp_model.specs.declared.pageblock_type.PageblockType.{PageblockType}
use Rattle.zp_model.specs.PageblockType.{pageblock_type_number, pageblock_types}
use Rattle.zp_model.specs.BlockSet.{is_order}
use Rattle.zp_model.specs.Rows.{list_at, stands_in}
use Rattle.zp_model.specs.Area.{kind_at, falling, lists_count}
use Rattle.zp_area.specs.Blocks.{Blocks, block_set}

-- whether page h is to stand on list r: a block of the list's order starts there, in a pageblock of the list's type
abbrev pub is_to_stand : ℕ → List (Option ℕ) → List PageblockType → ℕ → ℕ → Bool
is_to_stand m s kinds r h = is_order (r / pageblock_types) (slice_index_or s h None) && (pageblock_type_number (kind_at m kinds h) == r % pageblock_types)

-- a list under other types: first the heads that come to it, the highest first, then those of the old ones that stay, in their old order
unfoldable pub relisted : ℕ → List (Option ℕ) → List PageblockType → ℕ → List ℕ → List ℕ
relisted m s kinds r old =
    filter (λ h. is_to_stand m s kinds r h && not (stands_in h old)) (falling (length s)) ++ filter (is_to_stand m s kinds r) old

-- the free lists under these types, and the further lists as they were
unfoldable pub all_relisted : ℕ → Blocks → List PageblockType → List (List ℕ)
all_relisted m a kinds =
    map (λ r. relisted m (block_set a) kinds r (list_at a.rows.lists r)) (range_with_len 0 (lists_count m)) ++ drop (lists_count m) a.rows.lists

-- the pageblock has the type, and its blocks stand on the lists of the type
abbrev pub retyped : ℕ → Blocks → ℕ → PageblockType → Blocks
retyped m a pageblock t =
    let kinds = slice_set a.kinds pageblock t in
    record a { rows = record a.rows { lists = all_relisted m a kinds }; kinds = kinds }
