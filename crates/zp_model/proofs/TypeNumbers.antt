-- The numbers of the types of pages, and of the lists by order and type.
use Rattle.std.proofs.Common.{ℕ, ◌≡◌, ◌≤◌, ◌<◌, arith}
use Rattle.zp_model.specs.declared.migrate_type.MigrateType.{MigrateType}
use Rattle.zp_model.specs.declared.pageblock_type.PageblockType.{PageblockType}
use Rattle.zp_model.specs.Area.{list_number, lists_count}
use Rattle.zp_model.specs.MigrateType.{type_number, types_count}
use Rattle.zp_model.specs.PageblockType.{pageblock_type_number, pageblock_types}

pub type_number_below : (t : MigrateType) → type_number t < types_count
type_number_below t = grind arith

pub number_below : (t : PageblockType) → pageblock_type_number t < pageblock_types
number_below t = grind arith

-- a type has its number alone
pub number_one : (s t : PageblockType) → pageblock_type_number s ≡ pageblock_type_number t → s ≡ t
number_one s t e = grind arith

pub list_number_below : (m o : ℕ) (t : PageblockType) → o ≤ m → list_number o t < lists_count m
list_number_below m o t le = omega (arith, number_below t)
