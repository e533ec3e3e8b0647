use Rattle.std.proofs.Common.{refl}
use Rattle.zp_model.specs.declared.request.Request.TheVariants as request
use Rattle.zp_model.specs.declared.request.Reply.TheVariants as reply
use Rattle.zp_zone.specs.declared.told.Told.{Told}
use Rattle.zonealloc.proofs.Answering.{ask_denied}
use Rattle.zonealloc.proofs.asking.ask_told.Goals as goal

pub returns-in-Err-clause-denied : goal.returns-in-Err-clause-denied
returns-in-Err-clause-denied c =
    ask_denied (λ (t : Told). reply.Page t.page) c.args.zone (request.Alloc c.args.order c.args.kind c.args.mark) c.in-Err.why c.call_error.result _ _ c.held-held.result.now c.alloc_told.new.self c.in-Err.ensures.section
    c.held-held.ensures.value refl c.call_error.ensures
