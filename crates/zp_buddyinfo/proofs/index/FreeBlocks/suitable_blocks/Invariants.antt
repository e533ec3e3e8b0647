use Rattle.std.proofs.Common.{◌≡◌, ◌≤◌, ◌-◌, length}
use Rattle.zp_buddyinfo.specs.Figures.{suitable_blocks}
use Rattle.zp_buddyinfo.proofs.index.FreeBlocks.suitable_blocks.Given as goal

-- those of the orders so far, in blocks of the last of them
abbrev pub invariant-loop-next : goal.invariant-loop-next
invariant-loop-next l = record {
  above : l.order ≤ l.next;
  inside : l.next ≤ length l.blocks;
  suitable : l.suitable ≡ suitable_blocks l.blocks l.next;
}

abbrev pub decreases-loop-next : goal.decreases-loop-next
decreases-loop-next l = l.next - l.order
