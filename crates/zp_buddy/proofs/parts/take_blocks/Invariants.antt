use Rattle.std.proofs.Common.{◌-◌}
use Rattle.zp_buddy.proofs.PartsTaken.{IsTakingOn}
use Rattle.zp_buddy.proofs.parts.take_blocks.Given as goal

-- the pages before `next` have left
abbrev pub invariant-heads : goal.invariant-heads
invariant-heads l = IsTakingOn l.fn.area l.area l.from l.end l.next

abbrev pub decreases-heads : goal.decreases-heads
decreases-heads l = l.end - l.next
