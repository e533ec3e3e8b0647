use Rattle.std.proofs.Common.{◌-◌}
use Rattle.zp_model.specs.Zone.{pages_of}
use Rattle.zp_zone.proofs.LowestRuns.{IsSearching}
use Rattle.zp_zone.proofs.untied_zone.UntiedZone.lowest_run.Given as goal

-- the pages before `next` have been passed
abbrev pub invariant-passes : goal.invariant-passes
invariant-passes l = IsSearching l.self.plain l.pages l.align l.start l.next

abbrev pub decreases-passes : goal.decreases-passes
decreases-passes l = pages_of l.self.plain - l.next
