use Rattle.std.proofs.Common.{◌+◌, ◌*◌, ◌≡◌, ◌≤◌, length}
use Rattle.zp_model.specs.Area.{pageblock_pages}
use Rattle.zp_area.specs.NotedBlocks.{blocks_of}
use Rattle.zp_area.proofs.LargestSeen.{largest_from}
use Rattle.zp_area.proofs.available.largest_seen.Given as goal

-- the blocks that start from page `i` on are looked at
abbrev pub invariant-pages : goal.invariant-pages
invariant-pages l = record {
  from : l.pageblock * pageblock_pages l.fn.largest ≤ l.i;
  upto : l.i ≤ l.pageblock * pageblock_pages l.fn.largest + pageblock_pages l.fn.largest;
  page : l.i ≤ length l.lists.states;
  most : l.found ≡ largest_from l.fn.largest (blocks_of l.lists.states) (l.pageblock * pageblock_pages l.fn.largest) l.i;
}

abbrev pub decreases-pages : goal.decreases-pages
decreases-pages l = l.i
