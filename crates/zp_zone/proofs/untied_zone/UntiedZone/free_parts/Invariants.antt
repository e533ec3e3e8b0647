use Rattle.std.proofs.Common.{◌-◌, ◌≡◌}
use Rattle.zp_zone.proofs.RunsFreed.{IsFreeingRun}
use Rattle.zp_zone.proofs.untied_zone.UntiedZone.free_parts.Given as goal

-- the pages before `next` have come back
abbrev pub invariant-parts : goal.invariant-parts
invariant-parts l = record {
  name : l.self.name ≡ l.fn.self.name;
  freeing : IsFreeingRun l.fn.self.plain l.self.plain l.worker l.fn.at l.fn.pages l.next l.end;
}

abbrev pub decreases-parts : goal.decreases-parts
decreases-parts l = l.end - l.next
