use Rattle.std.proofs.Common.{◌≡◌, ◌≤◌, ◌-◌, length, take}
use Rattle.zp_streams.specs.Streams.{IsWritten}
use Rattle.zp_text.proofs.gathering.write_lines.Given as goal

-- the lines so far were written, and no call failed
abbrev pub invariant-lines : goal.invariant-lines
invariant-lines g l = record {
  inside : l.at ≤ length l.text;
  written : IsWritten (g.W.Writer.contents l.initial.writer) (g.W.Writer.contents l.writer) (take l.at l.text);
  calm : g.W.Writer.failures l.writer ≡ g.W.Writer.failures l.initial.writer;
}

abbrev pub decreases-lines : goal.decreases-lines
decreases-lines g l = length l.text - l.at
