-- No order from `left` on is noted beside the type.
use Rattle.std.proofs.Common.{ℕ, ◌<◌, ◌≤◌}
use Rattle.zp_model.specs.declared.constants.TheConstants.{ORDERS}
use Rattle.zp_claims.specs.Noted.{IsBeside}
use Rattle.zp_claims.proofs.table.ClaimTable.largest_beside.Given as goal

abbrev pub invariant-orders : goal.invariant-orders
invariant-orders l = record {
  orders : l.left ≤ ORDERS;
  below : (b o : ℕ) → IsBeside l.self l.fn.kind b o → o < l.left;
}

abbrev pub decreases-orders : goal.decreases-orders
decreases-orders l = l.left
