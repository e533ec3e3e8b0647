use Rattle.std.proofs.Common.{◌-◌, ◌^◌, ◌<◌, ◌≤◌, length}
use Rattle.zp_model.specs.RunLaws.{IsFitting}
use Rattle.zp_buddy.specs.Choices.{frames_in}
use Rattle.zp_buddy.specs.FallingRuns.{AreTails, IsGivingAs}
use Rattle.zp_buddy.proofs.falling.take_behind.Given as goal

-- the end has moved behind the blocks that left, and the last block begins before the first end
abbrev pub invariant-buddies : goal.invariant-buddies
invariant-buddies l = record {
  same : IsGivingAs l.fn.area.largest l.fn.area l.area l.from l.fn.end l.end;
  tails : AreTails (frames_in l.fn.area.largest l.area) l.from l.fn.end;
  last : IsFitting l.fn.area.largest l.end (l.end - l.from) l.order;
  before : l.end - 2 ^ l.order < l.fn.end;
  some : l.from < l.end;
  up : l.fn.end ≤ l.end;
}

abbrev pub decreases-buddies : goal.decreases-buddies
decreases-buddies l = length l.fn.area.rows.states - l.end
