-- What Linux's `/proc/pagetypeinfo` counts: free blocks by order and by the type of their pageblock, and pageblocks by type.
use Rattle.std.specs.Prelude.{ℕ, ◌==◌, ◌&&◌, Bool, length}
use Rattle.std.specs.List.{count_by, range_with_len}
use Rattle.zp_model.specs.declared.pageblock_type.PageblockType.{PageblockType}
use Rattle.zp_model.specs.Area.{Area, kind_at}
use Rattle.zp_model.specs.Block.{is_max}
use Rattle.zp_model.specs.PageblockType.{pageblock_type_number}

abbrev pub is_kind : PageblockType → PageblockType → Bool
is_kind t s = pageblock_type_number s == pageblock_type_number t

-- whether a free block of order k begins at place h, in a pageblock of type t
abbrev pub is_typed_block : Area → ℕ → PageblockType → ℕ → Bool
is_typed_block a k t h = is_max a.largest a.free h k && is_kind t (kind_at a.largest a.kinds h)

-- how many free blocks of order k lie in pageblocks of type t
unfoldable pub typed_blocks : Area → ℕ → PageblockType → ℕ
typed_blocks a k t = count_by (is_typed_block a k t) (range_with_len 0 (length a.free))

-- how many pageblocks are of type t
unfoldable pub typed_pageblocks : Area → PageblockType → ℕ
typed_pageblocks a t = count_by (is_kind t) a.kinds
