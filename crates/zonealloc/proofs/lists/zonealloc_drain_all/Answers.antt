use Rattle.std.proofs.Common.{refl}
use Rattle.zonealloc.proofs.Answering.{drained_call, drained_denied}
use Rattle.zonealloc.proofs.lists.zonealloc_drain_all.Goals as goal

pub returns-in-Err-clause-call : goal.returns-in-Err-clause-call
returns-in-Err-clause-call c =
    let told = c.in-Err.ensures in
    drained_call c.args.zone c.in-Err.why c.call_error.result _ _ c.held-held.result.now c.drain_all.new.self told.zone told.same told.denied c.held-held.ensures.value refl c.call_error.ensures

pub returns-in-Err-clause-denied : goal.returns-in-Err-clause-denied
returns-in-Err-clause-denied c =
    let told = c.in-Err.ensures in
    drained_denied c.args.zone c.in-Err.why c.call_error.result _ c.held-held.result.now c.drain_all.new.self told.zone told.denied c.held-held.ensures.value c.call_error.ensures
