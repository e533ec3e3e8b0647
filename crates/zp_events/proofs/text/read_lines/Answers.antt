use Rattle.std.proofs.Common.{refl, ◌∙◌, arith}
use Rattle.zp_events.specs.Reading.{spot}
use Rattle.zp_events.specs.Texts.{IsNextTaken, AreLastTaken}
use Rattle.zp_events.proofs.Options.{where_true, where_false}
use Rattle.zp_events.proofs.Texts.{none_so_far, more_so_far, all_so_far, stopped_so_far}
use Rattle.zp_events.proofs.text.read_lines.Goals as goal

pub lines-init : goal.lines-init
lines-init g c = record { so_far = none_so_far g.S.LineSink.carries g.S.LineSink.passes g.S.LineSink.drops c.args.at_broken c.args.sink.now (spot c.args.lines.now.window (g.R.Reader.remaining c.args.lines.now.reader) c.args.lines.now.passed); calm = refl }

pub lines-preserved : goal.lines-preserved
lines-preserved g c = record {
  so_far = more_so_far g.S.LineSink.carries g.S.LineSink.passes g.S.LineSink.drops c.args.at_broken c.args.sink.now c.lines.sink c.take_next.new.sink (spot c.args.lines.now.window (g.R.Reader.remaining c.args.lines.now.reader) c.args.lines.now.passed) (spot c.lines.lines.window (g.R.Reader.remaining c.lines.lines.reader) c.lines.lines.passed) (spot c.take_next.new.lines.window (g.R.Reader.remaining c.take_next.new.lines.reader) c.take_next.new.lines.passed) c.lines.invariant.so_far
      (where_true c.in-Ok-true.field-0 (IsNextTaken g.S.LineSink.carries g.S.LineSink.passes g.S.LineSink.drops c.args.at_broken c.lines.sink (spot c.lines.lines.window (g.R.Reader.remaining c.lines.lines.reader) c.lines.lines.passed) (spot c.take_next.new.lines.window (g.R.Reader.remaining c.take_next.new.lines.reader) c.take_next.new.lines.passed) c.take_next.new.sink) (AreLastTaken g.S.LineSink.carries g.S.LineSink.passes g.S.LineSink.drops c.args.at_broken c.lines.sink (spot c.lines.lines.window (g.R.Reader.remaining c.lines.lines.reader) c.lines.lines.passed) (spot c.take_next.new.lines.window (g.R.Reader.remaining c.take_next.new.lines.reader) c.take_next.new.lines.passed) c.take_next.new.sink) c.in-Ok-true.ensures.taken c.in-Ok-true.field-0-test);
  calm = c.in-Ok-true.ensures.calm ∙ c.lines.invariant.calm;
}

pub returns-in-Ok-false-clause-taken : goal.returns-in-Ok-false-clause-taken
returns-in-Ok-false-clause-taken g c =
    all_so_far g.S.LineSink.carries g.S.LineSink.passes g.S.LineSink.drops c.args.at_broken c.args.sink.now c.lines.sink c.take_next.new.sink (spot c.args.lines.now.window (g.R.Reader.remaining c.args.lines.now.reader) c.args.lines.now.passed) (spot c.lines.lines.window (g.R.Reader.remaining c.lines.lines.reader) c.lines.lines.passed) (spot c.take_next.new.lines.window (g.R.Reader.remaining c.take_next.new.lines.reader) c.take_next.new.lines.passed) _ c.lines.invariant.so_far
    (where_false c.in-Ok-false.field-0 (IsNextTaken g.S.LineSink.carries g.S.LineSink.passes g.S.LineSink.drops c.args.at_broken c.lines.sink (spot c.lines.lines.window (g.R.Reader.remaining c.lines.lines.reader) c.lines.lines.passed) (spot c.take_next.new.lines.window (g.R.Reader.remaining c.take_next.new.lines.reader) c.take_next.new.lines.passed) c.take_next.new.sink) (AreLastTaken g.S.LineSink.carries g.S.LineSink.passes g.S.LineSink.drops c.args.at_broken c.lines.sink (spot c.lines.lines.window (g.R.Reader.remaining c.lines.lines.reader) c.lines.lines.passed) (spot c.take_next.new.lines.window (g.R.Reader.remaining c.take_next.new.lines.reader) c.take_next.new.lines.passed) c.take_next.new.sink) c.in-Ok-false.ensures.taken c.in-Ok-false.field-0-test)
    (omega (arith, c.passed-in-Ok-false.ensures, c.passed-first.ensures))

pub returns-in-Err-clause-stopped : goal.returns-in-Err-clause-stopped
returns-in-Err-clause-stopped g c =
    stopped_so_far g.S.LineSink.carries g.S.LineSink.passes g.S.LineSink.drops c.args.at_broken g.S.LineSink.fails c.args.sink.now c.lines.sink c.take_next.new.sink (spot c.args.lines.now.window (g.R.Reader.remaining c.args.lines.now.reader) c.args.lines.now.passed) (spot c.lines.lines.window (g.R.Reader.remaining c.lines.lines.reader) c.lines.lines.passed) (spot c.take_next.new.lines.window (g.R.Reader.remaining c.take_next.new.lines.reader) c.take_next.new.lines.passed) c.in-Err.fault c.lines.invariant.so_far c.in-Err.ensures.stopped
