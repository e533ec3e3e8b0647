-- What a page is to a share as one byte, and the use that a byte stands for (this profile's layout).
use Rattle.std.specs.Prelude.{ℕ, zero, suc, ◌+◌, ◌*◌, ◌/◌, ◌%◌, ◌≡◌, cond, leb}
use Rattle.zp_model.specs.declared.constants.TheConstants.{LARGEST_ORDER}
use Rattle.zp_model.specs.declared.migrate_type.MigrateType.{MigrateType}
use Rattle.zp_model.specs.declared.migrate_type.MigrateType.TheVariants.{Unmovable, Reclaimable, Movable}
use Rattle.zp_model.specs.MigrateType.{type_number}
use Rattle.zp_share.specs.declared.page_use.PageUse.{PageUse}
use Rattle.zp_share.specs.declared.page_use.PageUse.TheVariants.{Away, Lent, Cached}
use Rattle.zp_share.specs.declared.packed_use.TheConstants.{CACHED, TYPE_ROOM}

-- the byte of a use: its type, and above it what the page is
abbrev pub packed_use : PageUse → ℕ
packed_use Away = 0
packed_use (Lent order t) = (order + 1) * TYPE_ROOM + type_number t
packed_use (Cached t) = CACHED * TYPE_ROOM + type_number t

abbrev pub type_numbered : ℕ → MigrateType
type_numbered zero = Unmovable
type_numbered (suc zero) = Reclaimable
type_numbered (suc (suc n)) = Movable

-- the use that this above a type stands for
abbrev pub use_numbered : ℕ → MigrateType → PageUse
use_numbered zero t = Away
use_numbered (suc n) t = cond (leb n LARGEST_ORDER) (Lent n t) (Cached t)

-- the use of a byte
abbrev pub unpacked_use : ℕ → PageUse
unpacked_use byte = use_numbered (byte / TYPE_ROOM) (type_numbered (byte % TYPE_ROOM))

-- a byte that a use is packed in
abbrev pub IsPackedUse : ℕ → Type 0
IsPackedUse byte = packed_use (unpacked_use byte) ≡ byte
