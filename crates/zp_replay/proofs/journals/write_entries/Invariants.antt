use Rattle.std.proofs.Common.{◌≡◌, take}
use Rattle.std.specs.List.{flat_map}
use Rattle.zp_streams.specs.Streams.{IsWritten}
use Rattle.zp_replay.specs.Judging.{judged_text}
use Rattle.zp_replay.proofs.journals.write_entries.Given as goal

-- those of the journals so far were written, and no call failed
abbrev pub invariant-loop-journal : goal.invariant-loop-journal
invariant-loop-journal g l = record {
  written : IsWritten (g.W.Writer.contents l.initial.writer) (g.W.Writer.contents l.writer) (flat_map judged_text (take l.journal-index l.journals));
  calm : g.W.Writer.failures l.writer ≡ g.W.Writer.failures l.initial.writer;
}
