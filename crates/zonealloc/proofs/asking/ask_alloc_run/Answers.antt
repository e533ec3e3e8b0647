use Rattle.std.proofs.Common.{refl}
use Rattle.zp_model.specs.declared.request.Request.{Request}
use Rattle.zp_model.specs.declared.request.Reply.{Reply}
use Rattle.zonealloc.proofs.Answering.{ask_denied}
use Rattle.zonealloc.proofs.asking.ask_alloc_run.Goals as goal

pub returns-in-Err-clause-denied : goal.returns-in-Err-clause-denied
returns-in-Err-clause-denied c =
    ask_denied (λ page. Reply.Page page) c.args.zone (Request.AllocRun c.args.pages c.args.align c.args.mark) c.in-Err.why c.call_error.result _ _ c.held-held.result.now c.alloc_run.new.self c.in-Err.ensures c.held-held.ensures.value refl
    c.call_error.ensures
