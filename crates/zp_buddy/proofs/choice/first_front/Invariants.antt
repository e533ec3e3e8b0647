use Rattle.std.proofs.Common.{◌≡◌, ◌≤◌, ◌<◌, ◌-◌, ◌+◌, ℕ, None}
use Rattle.zp_buddy.specs.Choices.{front_of_order}
use Rattle.zp_model.specs.declared.constants.TheConstants.{LARGEST_ORDER}
use Rattle.zp_buddy.proofs.choice.first_front.Given as goal

-- the lists of the orders before `number` are empty
abbrev pub invariant-orders : goal.invariant-orders
invariant-orders l = record {
  from : l.fn.order ≤ l.number;
  most : l.number ≤ LARGEST_ORDER + 1;
  none : (o : ℕ) → l.fn.order ≤ o → o < l.number → front_of_order l.area.largest l.area l.kinds o ≡ None;
}

abbrev pub decreases-orders : goal.decreases-orders
decreases-orders l = l.area.largest + 1 - l.number
