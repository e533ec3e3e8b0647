use Rattle.zp_events.proofs.Buffers.{NoLostBelow}
use Rattle.zp_events.proofs.buffer_lines.lost_events.Given as goal

-- no report begins at a place before
abbrev pub invariant-loop-at : goal.invariant-loop-at
invariant-loop-at l = NoLostBelow l.line l.at
