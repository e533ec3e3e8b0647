use Rattle.std.proofs.Common.{◌-◌}
use Rattle.zp_buddy.proofs.PartsBack.{IsBackBefore}
use Rattle.zp_buddy.proofs.parts.add_before.Given as goal

-- the pages before `next` have come back
abbrev pub invariant-tiles : goal.invariant-tiles
invariant-tiles l = IsBackBefore l.fn.area l.area l.from l.taken l.next

abbrev pub decreases-tiles : goal.decreases-tiles
decreases-tiles l = l.taken - l.next
