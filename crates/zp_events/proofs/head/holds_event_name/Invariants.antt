use Rattle.std.proofs.Common.{length}
use Rattle.zp_events.proofs.HeldNames.{HoldsAsRest}
use Rattle.zp_events.proofs.head.holds_event_name.Given as goal

abbrev pub invariant-colons : goal.invariant-colons
invariant-colons l = HoldsAsRest l.line l.rest

abbrev pub decreases-colons : goal.decreases-colons
decreases-colons l = length l.rest
