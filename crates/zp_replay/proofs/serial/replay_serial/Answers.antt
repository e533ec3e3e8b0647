use Rattle.std.proofs.Common.{rules}
use Rattle.zp_replay.proofs.Endings.{output_cut, replayed, unanswered}
use Rattle.zp_replay.proofs.serial.replay_serial.Goals as goal

pub returns-in_err-write_output-clause-unmade : goal.returns-in_err-write_output-clause-unmade
returns-in_err-write_output-clause-unmade g c e = unanswered _ _ _ _ _ _ c.in-Trace.trace c.in-Trace.is c.in_ok-trace.ensures.input (c.in_err-write_output.ensures.unmade (search rules))

pub returns-in_err-write_output-clause-begun : goal.returns-in_err-write_output-clause-begun
returns-in_err-write_output-clause-begun g c e = output_cut _ _ _ _ _ _ c.in-Trace.trace c.in-Trace.is c.in_ok-trace.ensures.input (c.in_err-write_output.ensures.begun (search rules))

pub returns-clause-good : goal.returns-clause-good
returns-clause-good g c e = replayed _ _ _ _ _ _ c.in-Trace.trace c.in-Trace.is c.in_ok-trace.ensures.input c.in_ok-write_output.ensures.ok
