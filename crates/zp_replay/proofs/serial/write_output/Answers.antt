use Rattle.zp_streams.proofs.Written.{written-same, begun-same}
use Rattle.zp_replay.proofs.Outputs.{output_is}
use Rattle.zp_replay.proofs.serial.write_output.Goals as goal

pub returns-in_err-write_report-clause-begun : goal.returns-in_err-write_report-clause-begun
returns-in_err-write_report-clause-begun g c e =
    begun-same _ _ _ _ (output_is c.args.trace.now c.in_ok-office.office c.as_slice.result.now c.as_slice.ensures c.in_ok-office.ensures.served) c.in_err-write_report.ensures.err

pub returns-clause-ok : goal.returns-clause-ok
returns-clause-ok g c =
    written-same _ _ _ _ (output_is c.args.trace.now c.in_ok-office.office c.as_slice.result.now c.as_slice.ensures c.in_ok-office.ensures.served) c.in_ok-write_report.ensures.ok
