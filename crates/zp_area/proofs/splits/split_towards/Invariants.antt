use Rattle.std.proofs.Common.{◌≡◌}
use Rattle.zp_model.specs.Area.{list_number}
use Rattle.zp_area.specs.Blocks.{Blocks}
use Rattle.zp_area.specs.KeptSets.{set_of}
use Rattle.zp_area.proofs.Halving.{IsHalving}
use Rattle.zp_area.proofs.splits.split_towards.Given as goal

-- the halves beside the page of the orders from `order` on are added, and `list` is the list of that order
abbrev pub invariant-halves : goal.invariant-halves
invariant-halves l =
    let a : Blocks = set_of l.fn.blocks in
    let b : Blocks = record (set_of l.fn.blocks) { rows = l.lists } in
    record { halving : IsHalving l.fn.blocks.largest a b l.free_in.items l.at l.fn.from l.to l.order; list : l.list ≡ list_number l.order l.fn.kind }

abbrev pub decreases-halves : goal.decreases-halves
decreases-halves l = l.order
