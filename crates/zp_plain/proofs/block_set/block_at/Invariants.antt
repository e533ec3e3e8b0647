use Rattle.std.proofs.Common.{◌≡◌}
use Rattle.std.specs.List.{find}
use Rattle.zp_model.specs.Block.{is_max}
use Rattle.zp_model.specs.BlockSet.{orders_from}
use Rattle.zp_plain.proofs.block_set.block_at.Given as goal

-- the order is looked for from the number on
abbrev pub invariant-orders : goal.invariant-orders
invariant-orders l = find (is_max l.largest l.free l.head) (orders_from l.largest 0) ≡ find (is_max l.largest l.free l.head) (orders_from l.largest l.number)
