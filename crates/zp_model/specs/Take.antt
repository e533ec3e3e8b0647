-- Taking a block and giving one back. Nothing is split and nothing joined here: the free pages change, and the lists settle.
use Rattle.std.specs.Prelude.{ℕ, ◌/◌, List, cond, Option, None, Some, slice_set}
use Rattle.std.specs.Option.{option_map}
use Rattle.zp_model.specs.declared.migrate_type.MigrateType.{MigrateType}
use Rattle.zp_model.specs.declared.pageblock_type.PageblockType.{PageblockType}
use Rattle.zp_model.specs.Block.{without, with_run}
use Rattle.zp_model.specs.BlockSet.{max_blocks, lowest}
use Rattle.zp_model.specs.PageblockType.{pageblock_type}
use Rattle.zp_model.specs.Area.{Area, available_blocks, pageblock_pages, settle}
use Rattle.zp_model.specs.Choose.{Chosen, choose}

-- the pages of the run of order k at h leave the free ones
unfoldable pub leave : Area → ℕ → ℕ → Area
leave a h k = settle (record a { free = without a.free h k })

-- the pages of the run of order k at h become free
unfoldable pub give : Area → ℕ → ℕ → Area
give a h k = settle (record a { free = with_run a.free h k })

-- a pageblock gets a type
unfoldable pub retype : Area → ℕ → PageblockType → Area
retype a pageblock t = settle (record a { kinds = slice_set a.kinds pageblock t })

-- what taking the chosen block for type t leaves
unfoldable pub taken : Area → ℕ → MigrateType → Option Chosen → Area
taken a k t None = a
taken a k t (Some c) = leave (cond c.claims (retype a (c.head / pageblock_pages a.largest) (pageblock_type t)) a) c.head k

-- what taking a block of order k for type t answers and leaves
unfoldable pub take_answer : Area → ℕ → MigrateType → Option ℕ
take_answer a k t = option_map (λ c. c.head) (choose a k t)

unfoldable pub take_after : Area → ℕ → MigrateType → Area
take_after a k t = taken a k t (choose a k t)

-- the blocks of which the lowest is looked for: the maximal ones outside isolated pageblocks
abbrev pub blocks_at_hand : Area → List (Option ℕ)
blocks_at_hand a = available_blocks a.largest a.kinds (max_blocks a.largest a.free)

-- the head of the lowest of them of order k or more, and what taking its low run of order k leaves
unfoldable pub take_low_answer : Area → ℕ → Option ℕ
take_low_answer a k = option_map (λ (b : ℕ × ℕ). b.0) (lowest (blocks_at_hand a) k)

abbrev pub left_low : Area → ℕ → Option ℕ → Area
left_low a k None = a
left_low a k (Some h) = leave a h k

unfoldable pub take_low_after : Area → ℕ → Area
take_low_after a k = left_low a k (take_low_answer a k)
