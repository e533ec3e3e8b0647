use Rattle.std.proofs.Common.{ℕ, ◌≤◌, ◌<◌, ◌-◌}
use Rattle.zp_model.specs.Block.{head}
use Rattle.zp_model.specs.BlockSet.{Starts}
use Rattle.zp_area.specs.Blocks.{block_set}
use Rattle.zp_buddy.proofs.clear.is_in_larger.Given as goal

-- no block of an order up to `larger` has the page
abbrev pub invariant-orders : goal.invariant-orders
invariant-orders l = record {
  from : l.fn.order ≤ l.larger;
  none : (k : ℕ) → l.fn.order < k → k ≤ l.larger → Starts (block_set l.area) (head l.at k) k → ⊥;
}

abbrev pub decreases-orders : goal.decreases-orders
decreases-orders l = l.area.largest - l.larger
