use Rattle.std.proofs.Common.{◌≤◌, ◌-◌, ◌^◌, length}
use Rattle.zp_zone.specs.Runs.{AreTurned}
use Rattle.zp_zone.proofs.untied_zone.turned.longer_order.Given as goal

-- the first pages are those of a block of this order
abbrev pub invariant-halves : goal.invariant-halves
invariant-halves l = record {
  within : l.order ≤ l.largest;
  room : 2 ^ l.order ≤ length l.pages;
  turned : AreTurned l.base l.pages l.first l.order;
}

abbrev pub decreases-halves : goal.decreases-halves
decreases-halves l = l.largest - l.order
