use Rattle.zp_zone.proofs.RunsFreed.{IsGivingRun}
use Rattle.zp_zone.proofs.untied_zone.cuts.give_cut.Given as goal

-- the blocks of the cut before page `next` have come back, and `left` pages are to
abbrev pub invariant-tiles : goal.invariant-tiles
invariant-tiles l = IsGivingRun l.fn.buddy l.buddy l.fn.from l.fn.pages l.next l.left

abbrev pub decreases-tiles : goal.decreases-tiles
decreases-tiles l = l.left
