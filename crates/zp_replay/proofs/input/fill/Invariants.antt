use Rattle.std.proofs.Common.{◌≡◌, ◌≤◌, ◌-◌, length, take}
use Rattle.std.specs.Io.KnownBytes.{Consumes}
use Rattle.zp_replay.proofs.input.fill.Given as goal

-- the bytes so far were read, and no call failed
abbrev pub invariant-pieces : goal.invariant-pieces
invariant-pieces g l = record {
  inside : l.at ≤ length l.buffer;
  front : Consumes (g.R.Reader.remaining l.initial.reader) (g.R.Reader.remaining l.reader) (take l.at l.buffer);
  calm : g.R.Reader.failures l.reader ≡ g.R.Reader.failures l.initial.reader;
}

abbrev pub decreases-pieces : goal.decreases-pieces
decreases-pieces g l = length l.initial.buffer - l.at
