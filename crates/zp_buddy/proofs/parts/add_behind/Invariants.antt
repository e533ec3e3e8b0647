use Rattle.std.proofs.Common.{◌-◌}
use Rattle.zp_buddy.specs.Parts.{MayComeBehind}
use Rattle.zp_buddy.proofs.PartsBack.{IsBackBehind}
use Rattle.zp_buddy.proofs.parts.add_behind.Given as goal

-- the pages before `next` have come back
abbrev pub invariant-tiles : goal.invariant-tiles
invariant-tiles l = (z : MayComeBehind l.fn.area l.from l.end) × IsBackBehind l.fn.area l.area z.last z.order l.from l.end l.next

abbrev pub decreases-tiles : goal.decreases-tiles
decreases-tiles l = l.end - l.next
