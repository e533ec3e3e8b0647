use Rattle.std.proofs.Common.{◌≡◌, ◌≤◌, length, nat_lt, slice_index, find, reverse}
use Rattle.std.specs.List.{range_with_len}
use Rattle.zp_buddyinfo.specs.Figures.{largest_order}
use Rattle.zp_buddyinfo.proofs.index.largest_of.Given as goal

-- the first from the top is the first from here down
abbrev pub invariant-loop-order : goal.invariant-loop-order
invariant-loop-order l = record {
  inside : l.order ≤ length l.blocks;
  same : largest_order l.blocks ≡ find (λ k. nat_lt 0 (slice_index l.blocks k)) (reverse (range_with_len 0 l.order));
}

abbrev pub decreases-loop-order : goal.decreases-loop-order
decreases-loop-order l = l.order
