-- The map of a zone: how many pages a cell has, the letters of pageblocks, and what is the largest free block. All of it is of this profile.
use Rattle.std.specs.Prelude.{ℕ, ◌≡◌, ◌≤◌, ◌<◌, ◌-◌, ◌*◌, ◌^◌, max, nat_lt, if◌then◌else◌, List, Contains, slice_index_or, Option, Some, None}
use Rattle.zp_model.specs.declared.pageblock_type.PageblockType.{PageblockType}
use Rattle.zp_model.specs.declared.pageblock_type.PageblockType.TheVariants.{Unmovable, Reclaimable, Movable, Isolate}
use Rattle.zp_model.specs.Area.{pageblocks_of}
use Rattle.zp_model.specs.Zone.{PlainZone, pages_of}
use Rattle.zp_drawing.specs.declared.map_lines.TheConstants.{MARGIN}
use Rattle.zp_view.specs.declared.page_state.PageState.{PageState}
use Rattle.zp_view.specs.declared.page_state.PageState.TheVariants.{Free}

-- how many cells a line of so many characters has room for behind its margin; one has to do where there is none
abbrev pub cells_in : ℕ → ℕ
cells_in width = max (width - MARGIN) 1

-- a cell has so many pages: the least power of two with which a line has room for a pageblock, or 2^16, which no zone's pageblock needs
pub record IsCellSize (pageblock width pages : ℕ) : Type 0 where
  pub order : ℕ
  pub power : pages ≡ 2 ^ order
  pub last : order ≤ 16
  pub fits : order < 16 → pageblock ≤ pages * cells_in width
  pub least : (k : ℕ) → k < order → 2 ^ k * cells_in width < pageblock

-- the letter of a type of pageblocks: the first of its name
abbrev pub type_letter : PageblockType → ℕ
type_letter Unmovable = 0x55
type_letter Reclaimable = 0x52
type_letter Movable = 0x4d
type_letter Isolate = 0x49

-- that of the zone's pageblock of this number; '?' where it has none
abbrev pub pageblock_letter : PlainZone → ℕ → ℕ
pageblock_letter z n = if nat_lt n (pageblocks_of z.area.largest (pages_of z)) then type_letter (slice_index_or z.area.kinds n Movable) else 0x3f

-- the larger of an order and of one that there may be
abbrev pub larger : Option ℕ → ℕ → ℕ
larger None k = k
larger (Some j) k = max j k

-- of the free blocks that have pages of the row the largest are of this order
pub record IsLargestFree (row : List PageState) (order : ℕ) : Type 0 where
  pub has : Contains row (Free order)
  pub largest : (k : ℕ) → Contains row (Free k) → k ≤ order

-- each page of the row is in use
abbrev pub HasNoFree : List PageState → Type 0
HasNoFree row = (k : ℕ) → Contains row (Free k) → ⊥
