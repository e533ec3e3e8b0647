use Rattle.zp_model.specs.Area.{kind_at}
use Rattle.zp_model.specs.PageblockType.{noted_type}
use Rattle.zp_zone.proofs.RunsNoted.{IsNotingRun}
use Rattle.zp_zone.proofs.untied_zone.cuts.note_taken.Given as goal

-- the blocks of the cut before page `next` are noted, and `left` pages are to be
abbrev pub invariant-tiles : goal.invariant-tiles
invariant-tiles l = IsNotingRun l.fn.buddy l.buddy l.worker (λ g. noted_type (kind_at l.fn.buddy.area.largest l.fn.buddy.area.kinds g)) l.fn.from l.fn.pages l.next l.left

abbrev pub decreases-tiles : goal.decreases-tiles
decreases-tiles l = l.left
