use Rattle.std.proofs.Common.{ℕ, ◌+◌, ap, subst, ◌∙◌, Err, arith}
use Rattle.zp_events.specs.declared.text.Untaken.{Untaken}
use Rattle.zp_events.specs.Reading.{spot}
use Rattle.zp_events.specs.Texts.{IsUntaken}
use Rattle.zp_events.proofs.Texts.{ahead_of, over_of, nothing_left, reader_failed, line_too_long, line_broken, line_refused, line_taken, same_spot}
use Rattle.zp_events.proofs.text.take_next.Goals as goal

pub returns-in-Ok-false-clause-taken : goal.returns-in-Ok-false-clause-taken
returns-in-Ok-false-clause-taken g c =
    nothing_left g.S.LineSink.carries g.S.LineSink.passes g.S.LineSink.drops c.args.at_broken c.args.sink.now (spot c.args.lines.now.window (g.R.Reader.remaining c.args.lines.now.reader) c.args.lines.now.passed) (spot c.peek.new.self.window (g.R.Reader.remaining c.peek.new.self.reader) c.peek.new.self.passed) c.peek.ensures.read
    (over_of (spot c.peek.new.self.window (g.R.Reader.remaining c.peek.new.self.reader) c.peek.new.self.passed) c.peek.new.self.ahead c.in-Ok-false.field-0 c.in-Ok-false.ensures.found c.in-Ok-false.field-0-test)

pub returns-in-Err-Read-clause-stopped : goal.returns-in-Err-Read-clause-stopped
returns-in-Err-Read-clause-stopped g c =
    reader_failed g.S.LineSink.carries g.S.LineSink.passes g.S.LineSink.drops c.args.at_broken c.args.sink.now (spot c.args.lines.now.window (g.R.Reader.remaining c.args.lines.now.reader) c.args.lines.now.passed) (spot c.peek.new.self.window (g.R.Reader.remaining c.peek.new.self.reader) c.peek.new.self.passed) c.peek.ensures.read (c.peek.ensures.no_more (c.in-Err-Read.is ∙ ap Err c.in-Err-Read.field-0-is))

pub returns-in-Err-TooLong-clause-stopped : goal.returns-in-Err-TooLong-clause-stopped
returns-in-Err-TooLong-clause-stopped g c =
    line_too_long g.S.LineSink.carries g.S.LineSink.passes g.S.LineSink.drops c.args.at_broken c.args.sink.now (spot c.args.lines.now.window (g.R.Reader.remaining c.args.lines.now.reader) c.args.lines.now.passed) (spot c.peek.new.self.window (g.R.Reader.remaining c.peek.new.self.reader) c.peek.new.self.passed) (c.passed.result + 1) c.peek.ensures.read (c.peek.ensures.too_long (c.in-Err-TooLong.is ∙ ap Err c.in-Err-TooLong.field-0-is)) (ap (λ (n : ℕ). n + 1) c.passed.ensures)

pub returns-in-Err-Broken-clause-stopped : goal.returns-in-Err-Broken-clause-stopped
returns-in-Err-Broken-clause-stopped g c =
    line_broken g.S.LineSink.carries g.S.LineSink.passes g.S.LineSink.drops c.args.at_broken g.S.LineSink.fails c.args.sink.now c.take_line.new.sink (spot c.args.lines.now.window (g.R.Reader.remaining c.args.lines.now.reader) c.args.lines.now.passed) (spot c.peek.new.self.window (g.R.Reader.remaining c.peek.new.self.reader) c.peek.new.self.passed) c.peek.new.self.ahead c.line.result.now (c.passed-in-Err-Broken.result + 1) c.in-Err-Broken.field-0
    c.peek.ensures.read (ahead_of (spot c.peek.new.self.window (g.R.Reader.remaining c.peek.new.self.reader) c.peek.new.self.passed) c.peek.new.self.ahead c.in-Ok-true.field-0 c.in-Ok-true.ensures.found c.in-Ok-true.field-0-test) c.line.ensures c.in-Err-Broken.ensures.untaken c.in-Err-Broken.field-0-is (ap (λ (n : ℕ). n + 1) c.passed-in-Err-Broken.ensures)

pub returns-in-Err-Sink-clause-stopped : goal.returns-in-Err-Sink-clause-stopped
returns-in-Err-Sink-clause-stopped g c =
    line_refused g.S.LineSink.carries g.S.LineSink.passes g.S.LineSink.drops c.args.at_broken g.S.LineSink.fails c.args.sink.now c.take_line.new.sink (spot c.args.lines.now.window (g.R.Reader.remaining c.args.lines.now.reader) c.args.lines.now.passed) (spot c.peek.new.self.window (g.R.Reader.remaining c.peek.new.self.reader) c.peek.new.self.passed) c.peek.new.self.ahead c.peek.ensures.read (ahead_of (spot c.peek.new.self.window (g.R.Reader.remaining c.peek.new.self.reader) c.peek.new.self.passed) c.peek.new.self.ahead c.in-Ok-true.field-0 c.in-Ok-true.ensures.found c.in-Ok-true.field-0-test) (subst (λ (why : Untaken). IsUntaken g.S.LineSink.carries g.S.LineSink.passes g.S.LineSink.drops c.args.at_broken g.S.LineSink.fails c.args.sink.now c.line.result.now why c.take_line.new.sink) c.in-Err-Sink.field-0-is c.in-Err-Sink.ensures.untaken)

pub returns-clause-taken : goal.returns-clause-taken
returns-clause-taken g c =
    line_taken g.S.LineSink.carries g.S.LineSink.passes g.S.LineSink.drops c.args.at_broken c.args.sink.now c.take_line.new.sink (spot c.args.lines.now.window (g.R.Reader.remaining c.args.lines.now.reader) c.args.lines.now.passed) (spot c.peek.new.self.window (g.R.Reader.remaining c.peek.new.self.reader) c.peek.new.self.passed) (spot c.pass.new.self.window (g.R.Reader.remaining c.pass.new.self.reader) c.pass.new.self.passed) c.peek.new.self.ahead c.line.result.now c.is_unended-more.result
    c.peek.ensures.read (ahead_of (spot c.peek.new.self.window (g.R.Reader.remaining c.peek.new.self.reader) c.peek.new.self.passed) c.peek.new.self.ahead c.in-Ok-true.field-0 c.in-Ok-true.ensures.found c.in-Ok-true.field-0-test) (omega (arith, c.requires, c.peek.ensures.read.none)) c.line.ensures c.in-Ok.ensures.taken c.is_unended-more.ensures
    (same_spot _ _ _ _ _ _ c.pass.ensures.window (ap g.R.Reader.remaining c.pass.ensures.reader) c.pass.ensures.passed)
