use Rattle.std.proofs.Common.{◌≡◌, ◌≤◌, ◌+◌, ◌-◌, length, take, None}
use Rattle.zp_events.specs.declared.reading.TheConstants.{LONGEST_LINE}
use Rattle.zp_events.specs.Reading.{HasNoLineFeed, IsReadOn, spot}
use Rattle.zp_events.proofs.reading.Lines.peek.Given as goal

-- more was read, and no line feed is in what was searched
abbrev pub invariant-reads : goal.invariant-reads
invariant-reads g l = record {
  read : IsReadOn (spot l.fn.self.window (g.R.Reader.remaining l.fn.self.reader) l.fn.self.passed) (spot l.self.window (g.R.Reader.remaining l.self.reader) l.self.passed);
  within : l.searched ≤ length l.self.window;
  none : HasNoLineFeed (take l.searched l.self.window);
  calm : g.R.Reader.failures l.self.reader ≡ g.R.Reader.failures l.fn.self.reader;
  ahead : l.self.ahead ≡ None;
}

abbrev pub decreases-reads : goal.decreases-reads
decreases-reads g l = LONGEST_LINE + 1 - length l.self.window
