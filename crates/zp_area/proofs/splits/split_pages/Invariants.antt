use Rattle.std.proofs.Common.{◌≡◌, ◌≤◌}
use Rattle.zp_model.specs.Area.{list_number}
use Rattle.zp_area.specs.Blocks.{Blocks}
use Rattle.zp_area.specs.KeptSets.{set_of}
use Rattle.zp_area.proofs.SplitPages.{IsParting}
use Rattle.zp_area.proofs.splits.split_pages.Given as goal

-- the parts so far have left, and `list` is that of the block of the next one
abbrev pub invariant-parts : goal.invariant-parts
invariant-parts l =
    let a : Blocks = set_of l.fn.blocks in
    let b : Blocks = record (set_of l.fn.blocks) { rows = l.blocks.lists } in
    record {
      parting : IsParting l.fn.blocks.largest a b l.blocks.tree l.fn.kind l.fn.block.head l.fn.block.order l.fn.pages l.at l.order l.left;
      most : l.left ≤ l.fn.pages;
      list : l.list ≡ list_number l.order l.fn.kind;
      largest : l.blocks.largest ≡ l.fn.blocks.largest;
      kinds : l.blocks.kinds ≡ l.fn.blocks.kinds;
      numbers : l.blocks.free_in ≡ l.fn.blocks.free_in;
    }

abbrev pub decreases-parts : goal.decreases-parts
decreases-parts l = l.left
