use Rattle.std.proofs.Common.{◌≡◌, ◌≤◌, ◌-◌, reverse}
use Rattle.std.specs.List.{range_with_len}
use Rattle.zp_model.specs.BlockSet.{first_of, orders_from}
use Rattle.zp_model.specs.MigrateType.{foreign}
use Rattle.zp_plain.specs.Chosen.{claimable_at}
use Rattle.zp_plain.proofs.choose.claim.Given as goal

-- what is looked for is of one of the orders below `left`
abbrev pub invariant-orders : goal.invariant-orders
invariant-orders l = record {
  within : l.left ≤ 11;
  rest :
      first_of (λ o. first_of (claimable_at l.area l.kind o) (foreign l.kind)) (reverse (orders_from l.area.largest l.order))
      ≡ first_of (λ o. first_of (claimable_at l.area l.kind o) (foreign l.kind)) (reverse (range_with_len l.order (l.left - l.order)));
}

abbrev pub decreases-orders : goal.decreases-orders
decreases-orders l = l.left
