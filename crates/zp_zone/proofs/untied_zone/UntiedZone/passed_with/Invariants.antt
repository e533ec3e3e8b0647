use Rattle.std.proofs.Common.{◌-◌, ◌<◌, false}
use Rattle.zp_zone.specs.Lowest.{IsPassed}
use Rattle.zp_zone.proofs.untied_zone.UntiedZone.passed_with.Given as goal

-- a run may have none of the pages before `next`
abbrev pub invariant-behind : goal.invariant-behind
invariant-behind l = record {
  past : l.first < l.next;
  passed : IsPassed l.self.plain l.fn.at (l.next - l.first) false;
}

abbrev pub decreases-behind : goal.decreases-behind
decreases-behind l = l.end - l.next
