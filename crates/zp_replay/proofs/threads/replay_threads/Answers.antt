use Rattle.std.proofs.Common.{rules}
use Rattle.zp_replay.proofs.Endings.{report_cut, reported, unanswered}
use Rattle.zp_replay.proofs.threads.replay_threads.Goals as goal

pub returns-in_err-report_trace-clause-unmade : goal.returns-in_err-report_trace-clause-unmade
returns-in_err-report_trace-clause-unmade g c e = unanswered _ _ _ _ _ _ c.in-Trace.trace c.in-Trace.is c.in_ok-trace.ensures.input (c.in_err-report_trace.ensures.unmade (search rules))

pub returns-in_err-report_trace-clause-no_thread : goal.returns-in_err-report_trace-clause-no_thread
returns-in_err-report_trace-clause-no_thread g c e = unanswered _ _ _ _ _ _ c.in-Trace.trace c.in-Trace.is c.in_ok-trace.ensures.input (c.in_err-report_trace.ensures.no_thread (search rules))

pub returns-in_err-report_trace-clause-begun : goal.returns-in_err-report_trace-clause-begun
returns-in_err-report_trace-clause-begun g c e = report_cut _ _ _ _ _ _ _ c.in-Trace.trace c.in-Trace.is c.in_ok-trace.ensures.input (c.in_err-report_trace.ensures.begun (search rules))

pub returns-clause-good : goal.returns-clause-good
returns-clause-good g c e = reported _ _ _ _ _ _ _ c.in-Trace.trace c.in-Trace.is c.in_ok-trace.ensures.input c.in_ok-report_trace.ensures.ok
