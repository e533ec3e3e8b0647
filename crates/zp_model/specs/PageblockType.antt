-- Types of pageblocks: the migrate types, and Isolate, of which nothing is chosen (Linux has such a type; the numbers are this profile's).
use Rattle.std.specs.Prelude.{ℕ, Bool, true, false, Option, None, Some, unwrap_or}
use Rattle.zp_model.specs.declared.constants.TheConstants.{PAGEBLOCK_TYPES}
use Rattle.zp_model.specs.declared.migrate_type.MigrateType.{MigrateType}
use Rattle.zp_model.specs.declared.migrate_type.MigrateType.TheVariants as asked
use Rattle.zp_model.specs.declared.pageblock_type.PageblockType.{PageblockType}
use Rattle.zp_model.specs.declared.pageblock_type.PageblockType.TheVariants.{Unmovable, Reclaimable, Movable, Isolate}

-- how many there are
abbrev pub pageblock_types : ℕ
pageblock_types = PAGEBLOCK_TYPES

-- the place of a type's list among the lists of one order
abbrev pub pageblock_type_number : PageblockType → ℕ
pageblock_type_number Unmovable = 0
pageblock_type_number Reclaimable = 1
pageblock_type_number Movable = 2
pageblock_type_number Isolate = 3

-- the type of a pageblock whose pages are asked for as this
abbrev pub pageblock_type : MigrateType → PageblockType
pageblock_type asked.Unmovable = Unmovable
pageblock_type asked.Reclaimable = Reclaimable
pageblock_type asked.Movable = Movable

-- what the pages of a pageblock are asked for as, where it is not isolated
abbrev pub migrate_type : PageblockType → Option MigrateType
migrate_type Unmovable = Some asked.Unmovable
migrate_type Reclaimable = Some asked.Reclaimable
migrate_type Movable = Some asked.Movable
migrate_type Isolate = None

abbrev pub is_isolate : PageblockType → Bool
is_isolate Unmovable = false
is_isolate Reclaimable = false
is_isolate Movable = false
is_isolate Isolate = true

-- the type noted for a block out that was taken whatever its type: its pageblock's, which is not isolated
abbrev pub noted_type : PageblockType → MigrateType
noted_type t = unwrap_or (migrate_type t) asked.Movable
