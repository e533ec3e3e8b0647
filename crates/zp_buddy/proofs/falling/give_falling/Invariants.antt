use Rattle.std.proofs.Common.{◌+◌, ◌-◌}
use Rattle.zp_buddy.specs.Choices.{frames_in}
use Rattle.zp_buddy.specs.FallingRuns.{AreTails, IsGivingAs}
use Rattle.zp_buddy.proofs.falling.give_falling.Given as goal

-- the pages up to `end` are left
abbrev pub invariant-parts : goal.invariant-parts
invariant-parts l = record {
  same : IsGivingAs l.fn.area.largest l.fn.area l.area l.from (l.from + l.pages) l.end;
  tails : AreTails (frames_in l.fn.area.largest l.area) l.from l.end;
}

abbrev pub decreases-parts : goal.decreases-parts
decreases-parts l = l.end - l.from
