use Rattle.std.proofs.Common.{◌+◌, ◌-◌, ◌^◌, ◌≡◌, ◌≤◌}
use Rattle.zp_model.specs.Area.{list_number}
use Rattle.zp_area.specs.Blocks.{Blocks}
use Rattle.zp_area.specs.Chains.{halves_added}
use Rattle.zp_area.specs.KeptSets.{set_of}
use Rattle.zp_area.proofs.Adding.{IsComing}
use Rattle.zp_area.proofs.splits.put_halves.Given as goal

-- the high halves of the orders above `order` are added, `pages` is the size of the next one, and `list` its list
abbrev pub invariant-halves : goal.invariant-halves
invariant-halves l =
    let a : Blocks = set_of l.fn.blocks in
    let b : Blocks = record (set_of l.fn.blocks) { rows = l.lists } in
    record {
      down : l.to ≤ l.order;
      coming : IsComing l.fn.blocks.largest b l.at (l.order + 1);
      pages : l.pages ≡ 2 ^ l.order;
      list : l.list ≡ list_number l.order l.fn.kind;
      after : halves_added l.fn.blocks.largest b l.at (l.to + 1) (l.order - l.to) ≡ halves_added l.fn.blocks.largest a l.at (l.to + 1) (l.fn.from - (l.to + 1));
    }

abbrev pub decreases-halves : goal.decreases-halves
decreases-halves l = l.order
