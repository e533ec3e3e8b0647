use Rattle.std.proofs.Common.{length}
use Rattle.zp_events.proofs.Colons.{IsPassed}
use Rattle.zp_events.proofs.line.beginning_of.Given as goal

abbrev pub invariant-colons : goal.invariant-colons
invariant-colons l = IsPassed l.line l.rest

abbrev pub decreases-colons : goal.decreases-colons
decreases-colons l = length l.rest
