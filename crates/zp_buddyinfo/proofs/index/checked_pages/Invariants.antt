use Rattle.std.proofs.Common.{◌≡◌, ◌<◌, ◌≤◌, length}
use Rattle.zp_buddyinfo.specs.Figures.{suitable_blocks}
use Rattle.zp_buddyinfo.specs.declared.bounds.TheConstants.{PAGE_LIMIT}
use Rattle.zp_buddyinfo.proofs.index.checked_pages.Given as goal

-- the pages of the orders so far, in blocks of the last of them
abbrev pub invariant-loop-order : goal.invariant-loop-order
invariant-loop-order l = record {
  inside : l.order ≤ length l.blocks;
  pages : l.pages ≡ suitable_blocks l.blocks l.order;
  small : l.pages < PAGE_LIMIT;
}

abbrev pub decreases-loop-order : goal.decreases-loop-order
decreases-loop-order l = l.order
