-- Migrate types: their numbers, and the order in which a request looks at foreign ones (this profile's table).
use Rattle.std.specs.Prelude.{ℕ, ◌==◌, Bool, List, [], ◌∷◌}
use Rattle.zp_model.specs.declared.migrate_type.MigrateType.{MigrateType}
use Rattle.zp_model.specs.declared.migrate_type.MigrateType.TheVariants.{Unmovable, Reclaimable, Movable}
use Rattle.zp_model.specs.declared.constants.TheConstants.{TYPES}

-- how many types there are
abbrev pub types_count : ℕ
types_count = TYPES

-- the place of a type's list among the lists of one order
abbrev pub type_number : MigrateType → ℕ
type_number Unmovable = 0
type_number Reclaimable = 1
type_number Movable = 2

abbrev pub same_type : MigrateType → MigrateType → Bool
same_type s t = type_number s == type_number t

-- the foreign types that a request for this type may take from, in the order in which it looks at them
abbrev pub foreign : MigrateType → List MigrateType
foreign Unmovable = Reclaimable ∷ Movable ∷ []
foreign Reclaimable = Unmovable ∷ Movable ∷ []
foreign Movable = Reclaimable ∷ Unmovable ∷ []
