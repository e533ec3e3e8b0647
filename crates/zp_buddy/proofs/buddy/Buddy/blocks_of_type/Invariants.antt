use Rattle.std.proofs.Common.{ℕ, ◌≡◌, ◌<◌, ◌≤◌, ◌-◌, get_or, length}
use Rattle.zp_area.specs.Blocks.{free_list_of}
use Rattle.zp_buddy.proofs.buddy.Buddy.blocks_of_type.Given as goal

abbrev pub invariant-orders : goal.invariant-orders
invariant-orders l = record {
  upto : l.order ≤ l.self-inside.area.largest;
  orders : length l.blocks ≡ 11;
  counted : (j : ℕ) → j < l.order → get_or l.blocks j 0 ≡ length (free_list_of l.self-inside.area.largest l.self-inside.area j l.kind);
  above : (j : ℕ) → l.order ≤ j → get_or l.blocks j 0 ≡ 0;
}

abbrev pub decreases-orders : goal.decreases-orders
decreases-orders l = l.self-inside.area.largest - l.order
