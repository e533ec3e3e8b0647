use Rattle.std.proofs.Common.{ℕ, ◌≡◌, ◌≤◌, ◌<◌, length}
use Rattle.zp_model.specs.Rows.{list_at}
use Rattle.zp_model.specs.Area.{lists_count, settled}
use Rattle.zp_plain.proofs.area.settle.Given as goal

-- the lists before the number are settled, and the others are as they were
abbrev pub invariant-lists : goal.invariant-lists
invariant-lists l = record {
  table : length l.lists.items ≡ lists_count l.largest;
  done : (q : ℕ) → q < l.list → list_at l.lists.items q ≡ settled l.largest l.free l.kinds q (list_at l.fn.lists.items q);
  left : (q : ℕ) → l.list ≤ q → list_at l.lists.items q ≡ list_at l.fn.lists.items q;
}
