use Rattle.std.proofs.Common.{◌≡◌, [], take}
use Rattle.std.specs.List.{flat_map}
use Rattle.zp_text.specs.Gathering.{IsGathered}
use Rattle.zp_replay.specs.Judging.{judged_verdict}
use Rattle.zp_replay.proofs.journals.write_verdicts.Given as goal

-- those of the journals so far were gathered, and no call failed
abbrev pub invariant-loop-journal : goal.invariant-loop-journal
invariant-loop-journal g l = record {
  gathered : IsGathered (g.W.Writer.contents l.fn.writer) (g.W.Writer.contents l.writer) [] l.text (flat_map judged_verdict (take l.journal-index l.journals));
  calm : g.W.Writer.failures l.writer ≡ g.W.Writer.failures l.fn.writer;
}
