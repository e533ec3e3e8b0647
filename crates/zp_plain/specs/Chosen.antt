-- What is looked for on the lists.
use Rattle.std.specs.Prelude.{ℕ, Option}
use Rattle.std.specs.List.{find}
use Rattle.zp_model.specs.declared.migrate_type.MigrateType.{MigrateType}
use Rattle.zp_model.specs.PageblockType.{pageblock_type}
use Rattle.zp_model.specs.Rows.{front}
use Rattle.zp_model.specs.Area.{Area, free_list}
use Rattle.zp_model.specs.Choose.{Chosen, is_claimable}
use Rattle.zp_plain.specs.declared.choose.PlainChoice.{PlainChoice}

abbrev pub as_chosen : PlainChoice → Chosen
as_chosen c = record { head = c.head; claims = c.claims }

-- the front block of order o in the pageblocks of type f
abbrev pub front_at : Area → ℕ → MigrateType → Option ℕ
front_at a o f = front (free_list a o (pageblock_type f))

-- the first block of order o in the pageblocks of type f that may be claimed for type t
abbrev pub claimable_at : Area → MigrateType → ℕ → MigrateType → Option ℕ
claimable_at a t o f = find (is_claimable a t o) (free_list a o (pageblock_type f))
