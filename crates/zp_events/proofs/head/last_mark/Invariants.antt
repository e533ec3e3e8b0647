use Rattle.std.proofs.Common.{◌≤◌, length}
use Rattle.zp_events.proofs.Marks.{NoMarkFrom}
use Rattle.zp_events.proofs.head.last_mark.Given as goal

-- no mark stands at a place that was tried
abbrev pub invariant-places : goal.invariant-places
invariant-places l = record { inside : l.at ≤ length l.text; none : NoMarkFrom l.text l.at }

abbrev pub decreases-places : goal.decreases-places
decreases-places l = l.at
