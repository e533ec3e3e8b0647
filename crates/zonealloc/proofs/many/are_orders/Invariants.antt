use Rattle.std.proofs.Common.{ℕ, ◌<◌, ◌≤◌, slice_index_or}
use Rattle.zp_model.specs.declared.constants.TheConstants.{LARGEST_ORDER}
use Rattle.zonealloc.proofs.many.are_orders.Given as goal

abbrev pub invariant-loop-order : goal.invariant-loop-order
invariant-loop-order l = (k d : ℕ) → k < l.order-index → slice_index_or l.orders k d ≤ LARGEST_ORDER
