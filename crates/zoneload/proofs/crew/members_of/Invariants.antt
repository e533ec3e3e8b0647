use Rattle.std.proofs.Common.{◌≡◌}
use Rattle.zoneload.proofs.crew.members_of.Given as goal

-- making readers leaves the opened zone as it was
abbrev pub invariant-loop-seat : goal.invariant-loop-seat
invariant-loop-seat g l =
    (goal.iterator-loop-seat g).can_next l.seat-iterator × (goal.iterator-loop-seat g).is_finite l.seat-iterator × (l.opened ≡ l.fn.opened)
