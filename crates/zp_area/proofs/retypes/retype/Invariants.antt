use Rattle.std.proofs.Common.{◌-◌, ◌*◌, ◌≡◌, ◌≤◌}
use Rattle.zp_model.specs.Area.{pageblock_pages}
use Rattle.zp_area.specs.NotedBlocks.{blocks_of}
use Rattle.zp_area.proofs.Relisting.{IsRelisting}
use Rattle.zp_area.proofs.retypes.retype.Given as goal

-- the blocks before page `i` are moved
abbrev pub invariant-pages : goal.invariant-pages
invariant-pages l = record {
  from : l.pageblock * pageblock_pages l.fn.largest ≤ l.i;
  upto : l.i ≤ l.end;
  states : l.lists.states ≡ l.initial.lists.states;
  moved : IsRelisting l.fn.largest (l.pageblock * pageblock_pages l.fn.largest) l.i l.kind (blocks_of l.initial.lists.states) l.kinds.items l.initial.lists.lists l.lists.lists;
}

abbrev pub decreases-pages : goal.decreases-pages
decreases-pages l = l.end - l.i
