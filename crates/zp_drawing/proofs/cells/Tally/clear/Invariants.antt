use Rattle.std.proofs.Common.{ℕ, ◌≡◌, ◌<◌, length, get_or}
use Rattle.zp_drawing.proofs.cells.Tally.clear.Given as goal

abbrev pub invariant-counts : goal.invariant-counts
invariant-counts l = record {
  kept : length l.count-items ≡ length l.initial.count-items;
  cleared : (k : ℕ) → k < l.count-index → get_or l.count-items k 0 ≡ 0;
}
