use Rattle.std.proofs.Common.{◌≡◌, ◌≤◌, ◌-◌, map}
use Rattle.std.specs.List.{range_with_len}
use Rattle.zp_model.specs.BlockSet.{greatest, max_blocks}
use Rattle.zp_plain.proofs.Looking.{order_before}
use Rattle.zp_plain.proofs.block_set.largest_in.Given as goal

-- what is found is the greatest order from `left` on
abbrev pub invariant-pages : goal.invariant-pages
invariant-pages l = record {
  low : l.first ≤ l.left;
  within : l.left ≤ l.end;
  best : l.found ≡ greatest (map (order_before (max_blocks l.largest l.free) l.end) (range_with_len l.left (l.end - l.left)));
}

abbrev pub decreases-pages : goal.decreases-pages
decreases-pages l = l.left
