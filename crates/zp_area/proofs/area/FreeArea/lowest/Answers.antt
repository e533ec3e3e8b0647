use Rattle.std.proofs.Common.{ℕ, ◌≡◌, ◌≤◌, false, List, Option, None, Some, IfSome}
use Rattle.zp_model.specs.declared.pageblock_type.PageblockType.{PageblockType}
use Rattle.zp_model.specs.Area.{available_blocks, is_isolated}
use Rattle.zp_model.specs.BlockSet.{Starts}
use Rattle.zp_area.specs.Blocks.{block_set}
use Rattle.zp_area.specs.KeptSets.{set_of}
use Rattle.zp_area.proofs.AvailableBlocks.{available-to}
use Rattle.zp_area.proofs.area.FreeArea.lowest.Goals as goal

-- a block outside isolated pageblocks is one of the set
held : (m k : ℕ) (kinds : List PageblockType) (s : List (Option ℕ)) (r : Option (ℕ × ℕ)) → IfSome r (λ b. Starts (available_blocks m kinds s) b.0 b.1 × (k ≤ b.1)) → IfSome r (λ b. Starts s b.0 b.1 × (k ≤ b.1))
held m k kinds s None w = tt
held m k kinds s (Some b) w = ((available-to m kinds s b.0 b.1 w.0).0, w.1)

shown : (m k : ℕ) (kinds : List PageblockType) (s : List (Option ℕ)) (r : Option (ℕ × ℕ)) → IfSome r (λ b. Starts (available_blocks m kinds s) b.0 b.1 × (k ≤ b.1)) → IfSome r (λ b. is_isolated m kinds b.0 ≡ false)
shown m k kinds s None w = tt
shown m k kinds s (Some b) w = (available-to m kinds s b.0 b.1 w.0).1

pub returns-clause-found : goal.returns-clause-found
returns-clause-found c =
    rw (← c.self.view_is) (held c.self.inside.blocks.largest c.args.order c.self.inside.blocks.kinds.items (block_set (set_of c.self.inside.blocks)) c.lowest.result (rw c.self.invariant.told at c.lowest.ensures.found))

pub returns-clause-open : goal.returns-clause-open
returns-clause-open c =
    rw (← c.self.view_is) (shown c.self.inside.blocks.largest c.args.order c.self.inside.blocks.kinds.items (block_set (set_of c.self.inside.blocks)) c.lowest.result (rw c.self.invariant.told at c.lowest.ensures.found))
