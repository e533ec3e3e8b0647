use Rattle.zp_zone.proofs.RunsNoted.{IsNotingRun}
use Rattle.zp_zone.proofs.untied_zone.cuts.note_cut.Given as goal

-- the blocks of the cut before page `next` are noted, and `left` pages are to be
abbrev pub invariant-tiles : goal.invariant-tiles
invariant-tiles l = IsNotingRun l.fn.buddy l.buddy l.worker (λ g. l.kind) l.fn.from l.fn.pages l.next l.left

abbrev pub decreases-tiles : goal.decreases-tiles
decreases-tiles l = l.left
