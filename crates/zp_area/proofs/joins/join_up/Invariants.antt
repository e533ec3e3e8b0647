use Rattle.std.proofs.Common.{◌≡◌, ◌-◌}
use Rattle.zp_model.specs.Area.{list_number}
use Rattle.zp_area.specs.Blocks.{Blocks}
use Rattle.zp_area.specs.KeptSets.{set_of}
use Rattle.zp_area.proofs.Growing.{IsGrowing}
use Rattle.zp_area.proofs.joins.join_up.Given as goal

-- the block that comes back has grown to the one of order `joined` at `head`, and `list` is the list of that order
abbrev pub invariant-joins : goal.invariant-joins
invariant-joins l =
    let a : Blocks = set_of l.fn.blocks in
    let b : Blocks = record (set_of l.fn.blocks) { rows = l.lists } in
    record { grown : IsGrowing l.fn.blocks.largest a b l.fn.blocks.free_in.items l.fn.at l.fn.order l.head l.joined; list : l.list ≡ list_number l.joined l.fn.kind }

abbrev pub decreases-joins : goal.decreases-joins
decreases-joins l = l.fn.blocks.largest - l.joined
