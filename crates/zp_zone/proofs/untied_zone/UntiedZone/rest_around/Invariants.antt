use Rattle.std.proofs.Common.{ℕ, ◌+◌, ◌-◌, ◌^◌, ◌≡◌, ◌≤◌, ◌<◌, true}
use Rattle.zp_model.specs.Block.{head, is_max}
use Rattle.zp_zone.proofs.untied_zone.UntiedZone.rest_around.Given as goal

-- no free block of a head around the page of an order below `number` has the page
abbrev pub invariant-orders : goal.invariant-orders
invariant-orders l = record {
  most : l.number ≤ l.largest + 1;
  none : (k : ℕ) → k < l.number → (j : ℕ) → is_max l.self.plain.area.largest l.self.plain.area.free (head l.at k) j ≡ true → head l.at k + 2 ^ j ≤ l.at;
}

abbrev pub decreases-orders : goal.decreases-orders
decreases-orders l = l.largest + 1 - l.number
