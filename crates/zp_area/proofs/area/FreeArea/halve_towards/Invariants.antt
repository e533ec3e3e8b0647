use Rattle.std.proofs.Common.{◌≡◌}
use Rattle.zp_area.proofs.Towards.{IsTowards}
use Rattle.zp_area.proofs.area.FreeArea.halve_towards.Given as goal

-- of the block that has left, the run of order `order` around the page is in no block yet
abbrev pub invariant-halves : goal.invariant-halves
invariant-halves l = record {
  largest : l.self.largest ≡ l.fn.self.largest;
  towards : IsTowards l.fn.self.largest l.fn.self l.self l.at l.fn.from l.to l.order;
}

abbrev pub decreases-halves : goal.decreases-halves
decreases-halves l = l.order
