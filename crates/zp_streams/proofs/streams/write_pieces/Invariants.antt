use Rattle.std.proofs.Common.{◌≡◌, ◌≤◌, ◌-◌, length, take}
use Rattle.zp_streams.specs.Streams.{IsWritten}
use Rattle.zp_streams.proofs.streams.write_pieces.Given as goal

abbrev pub invariant-pieces : goal.invariant-pieces
invariant-pieces g l = record {
  inside : l.at ≤ length l.bytes;
  written : IsWritten (g.W.Writer.contents l.initial.writer) (g.W.Writer.contents l.writer) (take l.at l.bytes);
  calm : g.W.Writer.failures l.writer ≡ g.W.Writer.failures l.initial.writer;
}

abbrev pub decreases-pieces : goal.decreases-pieces
decreases-pieces g l = length l.bytes - l.at
