use Rattle.zp_streams.proofs.Written.{begun-then, begun-longer, on_err}
use Rattle.zp_replay.proofs.threads.write_journaled_report.Goals as goal

pub returns-in_err-write_report-clause-err : goal.returns-in_err-write_report-clause-err
returns-in_err-write_report-clause-err g c = on_err c.from_residual.result (begun-longer _ _ _ _ c.in_err-write_report.ensures.err)

pub returns-in_err-write_ending-clause-err : goal.returns-in_err-write_ending-clause-err
returns-in_err-write_ending-clause-err g c =
    on_err c.from_residual-in_err-write_ending.result (begun-then _ _ _ _ _ c.in_ok-write_report.ensures.ok c.in_err-write_ending.ensures.err)
