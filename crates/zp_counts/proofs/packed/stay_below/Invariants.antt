use Rattle.std.proofs.Common.{ℕ, ◌<◌, ◌≤◌, get_or}
use Rattle.zp_counts.proofs.packed.stay_below.Given as goal

-- the counts so far are below the limit
abbrev pub invariant-loop-order : goal.invariant-loop-order
invariant-loop-order l = record {
  below : (k : ℕ) → l.from ≤ k → k < l.order → get_or l.counts.by_order k 0 < l.limit;
}
