use Rattle.std.proofs.Common.{◌≡◌, ◌≤◌, ◌+◌, ◌-◌, length}
use Rattle.std.specs.List.{range_with_len, count_by}
use Rattle.zp_model.specs.Block.{is_max}
use Rattle.zp_model.specs.Info.{blocks_of_order}
use Rattle.zp_plain.proofs.info.blocks_of_order.Given as goal

-- the blocks counted, with those that start from the index on, are all
abbrev pub invariant-heads : goal.invariant-heads
invariant-heads l = record {
  within : l.blocks ≤ l.i;
  counted : l.blocks + count_by (λ h. is_max l.largest l.set h l.order) (range_with_len l.i (length l.set - l.i)) ≡ blocks_of_order l.largest l.set l.order;
}
