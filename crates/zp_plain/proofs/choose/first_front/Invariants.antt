use Rattle.std.proofs.Common.{◌≡◌}
use Rattle.zp_model.specs.BlockSet.{first_of, orders_from}
use Rattle.zp_plain.specs.Chosen.{front_at}
use Rattle.zp_plain.proofs.choose.first_front.Given as goal

-- the lists of the orders before the number are empty
abbrev pub invariant-orders : goal.invariant-orders
invariant-orders l =
    first_of (λ o. first_of (front_at l.area o) l.kinds) (orders_from l.area.largest l.fn.order) ≡ first_of (λ o. first_of (front_at l.area o) l.kinds) (orders_from l.area.largest l.number)
