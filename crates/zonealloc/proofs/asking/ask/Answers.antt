use Rattle.std.proofs.Common.{refl}
use Rattle.zp_gate.specs.Calls.{reply_of, request_of}
use Rattle.zonealloc.proofs.Answering.{ask_denied}
use Rattle.zonealloc.proofs.asking.ask.Goals as goal

pub returns-in-Err-clause-denied : goal.returns-in-Err-clause-denied
returns-in-Err-clause-denied c = ask_denied (reply_of c.args.call) c.args.zone (request_of c.args.call) c.in-Err.why c.call_error.result _ _ c.held-held.result.now c.section.new.self c.in-Err.ensures c.held-held.ensures.value refl c.call_error.ensures
