use Rattle.std.proofs.Common.{ℕ, ◌+◌, ◌-◌, ◌<◌}
use Rattle.zp_model.specs.Block.{head}
use Rattle.zp_model.specs.BlockSet.{Starts}
use Rattle.zp_area.specs.Blocks.{block_set}
use Rattle.zp_area.proofs.area.FreeArea.order_above.Given as goal

-- no block above the order, but of one below `number`, has the page
abbrev pub invariant-orders : goal.invariant-orders
invariant-orders l = record {
  from : l.fn.order < l.number;
  none : (k : ℕ) → l.fn.order < k → k < l.number → Starts (block_set l.self) (head l.at k) k → ⊥;
}

abbrev pub decreases-orders : goal.decreases-orders
decreases-orders l = l.largest + 1 - l.number
