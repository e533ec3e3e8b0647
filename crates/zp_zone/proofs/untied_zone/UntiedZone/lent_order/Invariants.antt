use Rattle.std.proofs.Common.{ℕ, ◌+◌, ◌-◌, ◌≡◌, ◌≤◌, ◌<◌, false}
use Rattle.zp_model.specs.Block.{head}
use Rattle.zp_model.specs.Zone.{holds}
use Rattle.zp_zone.specs.Kept.{plain_of}
use Rattle.zp_zone.proofs.untied_zone.UntiedZone.lent_order.Given as goal

-- no block of an order below `number` that is out to the worker has the page
abbrev pub invariant-orders : goal.invariant-orders
invariant-orders l = record {
  most : l.number ≤ l.largest + 1;
  none : (k : ℕ) → k < l.number → holds (plain_of l.self-inside.buddy l.self-inside.base l.self-inside.min) l.worker (head l.at k) k ≡ false;
}

abbrev pub decreases-orders : goal.decreases-orders
decreases-orders l = l.largest + 1 - l.number
