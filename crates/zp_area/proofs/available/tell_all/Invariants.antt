use Rattle.std.proofs.Common.{◌-◌, ◌*◌, ◌≡◌, ◌≤◌}
use Rattle.zp_model.specs.Area.{pageblock_pages}
use Rattle.zp_area.specs.NotedBlocks.{blocks_of}
use Rattle.zp_area.proofs.Telling.{told_while}
use Rattle.zp_area.proofs.available.tell_all.Given as goal

-- the tree is told of the blocks before page `i`
abbrev pub invariant-pages : goal.invariant-pages
invariant-pages l = record {
  from : l.pageblock * pageblock_pages l.fn.largest ≤ l.i;
  upto : l.i ≤ l.end;
  told : l.tree ≡ told_while l.fn.largest l.kinds.items (l.pageblock * pageblock_pages l.fn.largest) l.i l.fn.kind (blocks_of l.lists.states);
}

abbrev pub decreases-pages : goal.decreases-pages
decreases-pages l = l.end - l.i
