use Rattle.std.proofs.Common.{subst}
use Rattle.zp_events.proofs.Marks.{from_place}
use Rattle.zp_events.proofs.Buffers.{NoLost, none_more}
use Rattle.zp_events.proofs.buffer_lines.lost_events.Goals as goal

pub loop-at-preserved : goal.loop-at-preserved
loop-at-preserved c =
    none_more c.args.line.now c.loop-at.at c.loop-at.invariant (subst NoLost (from_place c.args.line.now c.loop-at.at) c.in_default.ensures.none)
