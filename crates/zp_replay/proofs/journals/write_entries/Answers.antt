use Rattle.std.proofs.Common.{◌<◌, length, ◌∙◌, arith}
use Rattle.zp_replay.specs.Judging.{judged_text}
use Rattle.zp_streams.proofs.Written.{on_err, begun_item, written_item}
use Rattle.zp_replay.proofs.journals.write_entries.Goals as goal

pub returns-in_err-write_entries-clause-err : goal.returns-in_err-write_entries-clause-err
returns-in_err-write_entries-clause-err g c =
    let at : c.loop-journal.journal-index < length c.args.journals.now = omega arith in
    on_err c.from_residual.result (begun_item judged_text _ _ _ _ _ _ at c.journal-item.is c.loop-journal.invariant.written c.in_err-write_entries.ensures.err)

pub loop-journal-preserved : goal.loop-journal-preserved
loop-journal-preserved g c =
    let at : c.loop-journal.journal-index < length c.args.journals.now = omega arith in
    record {
      written = written_item judged_text _ _ _ _ _ _ at c.journal-item.is c.loop-journal.invariant.written c.in_ok-write_entries.ensures.ok;
      calm = c.in_ok-write_entries.ensures.calm ∙ c.loop-journal.invariant.calm;
    }
