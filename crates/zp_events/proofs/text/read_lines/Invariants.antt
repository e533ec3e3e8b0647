use Rattle.std.proofs.Common.{◌≡◌, ◌-◌, ◌^◌}
use Rattle.zp_events.specs.Reading.{spot}
use Rattle.zp_events.proofs.Texts.{IsTakenSoFar}
use Rattle.zp_events.proofs.text.read_lines.Given as goal

-- the lines so far were taken, and no call failed
abbrev pub invariant-lines : goal.invariant-lines
invariant-lines g l = record {
  so_far : IsTakenSoFar g.S.LineSink.carries g.S.LineSink.passes g.S.LineSink.drops l.at_broken l.fn.sink
      (spot l.fn.lines.window (g.R.Reader.remaining l.fn.lines.reader) l.fn.lines.passed) (spot l.lines.window (g.R.Reader.remaining l.lines.reader) l.lines.passed) l.sink;
  calm : g.R.Reader.failures l.lines.reader ≡ g.R.Reader.failures l.fn.lines.reader;
}

abbrev pub decreases-lines : goal.decreases-lines
decreases-lines g l = 2 ^ 64 - l.lines.passed
