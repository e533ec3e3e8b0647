use Rattle.std.proofs.Common.{length}
use Rattle.zp_events.proofs.FlagNames.{AreSoFar}
use Rattle.zp_events.proofs.flags.names_of.Given as goal

abbrev pub invariant-names : goal.invariant-names
invariant-names l = AreSoFar l.names l.rest l.flags

abbrev pub decreases-names : goal.decreases-names
decreases-names l = length l.rest
