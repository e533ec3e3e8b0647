use Rattle.std.proofs.Common.{refl}
use Rattle.zp_model.specs.declared.request.Request.{Request}
use Rattle.zp_gate.specs.GatedWorkers.{worker_share}
use Rattle.zonealloc.proofs.Answering.{denied_at}
use Rattle.zonealloc.proofs.lists.zonealloc_refill.Goals as goal

pub returns-in-Err-clause-call : goal.returns-in-Err-clause-call
returns-in-Err-clause-call c =
    let v = c.held-held.result.now in let i = c.args.zone in let kind = c.in-Some.kind in let mark = c.in-Some-mark_of.mark in
    denied_at _ _ _ i (Request.Refill kind mark (worker_share v i).batch) c.in-Err.why c.call_error.result _ _ v c.refill.new.self (v, kind, mark, refl, c.in-Some.ensures.some.0, c.in-Some-mark_of.ensures.some.0, refl) tt
    c.in-Err.ensures.denied c.held-held.ensures.value refl c.call_error.ensures
