use Rattle.std.proofs.Common.{ℕ, ◌≡◌, ◌<◌, ◌≤◌, ◌-◌, get_or, length}
use Rattle.zp_area.specs.Blocks.{block_set, count_of}
use Rattle.zp_buddy.proofs.buddy.Buddy.counts.Given as goal

abbrev pub invariant-orders : goal.invariant-orders
invariant-orders l = record {
  upto : l.order ≤ l.self-inside.area.largest;
  free : l.counts.free ≡ l.self-inside.free;
  orders : length l.counts.by_order ≡ 11;
  counted : (j : ℕ) → j < l.order → get_or l.counts.by_order j 0 ≡ count_of (block_set l.self-inside.area) j;
  above : (j : ℕ) → l.order ≤ j → get_or l.counts.by_order j 0 ≡ 0;
}

abbrev pub decreases-orders : goal.decreases-orders
decreases-orders l = l.self-inside.area.largest - l.order
