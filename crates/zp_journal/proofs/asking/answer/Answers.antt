use Rattle.std.proofs.Common.{◌≡◌, ℕ, List, Option, sym, subst}
use Rattle.zp_model.specs.declared.entry.Answered.{Answered}
use Rattle.zp_model.specs.declared.entry.Asked.{Asked}
use Rattle.zp_model.specs.declared.request.Reply.{Reply}
use Rattle.zp_model.specs.Entries.{request_of}
use Rattle.zp_model.specs.Step.{step}
use Rattle.zp_model.specs.Zone.{PlainZone}
use Rattle.zp_journal.specs.Asking.{IsReplyWith}
use Rattle.zp_journal.proofs.asking.answer.Goals as goal

-- the reply of a call is that of the step, and what it is called is known of this request
of_step : (z : PlainZone) (w : ℕ) (a b : Asked) (ps : List ℕ) (q : Reply) (o : Option Answered) → a ≡ b → q ≡ (step z w (request_of b ps)).reply → IsReplyWith ps q o →
    IsReplyWith ps (step z w (request_of a ps)).reply o
of_step z w a b ps q o is e r = subst (λ x. IsReplyWith ps (step z w (request_of x ps)).reply o) (sym is) (subst (λ x. IsReplyWith ps x o) e r)

pub returns-in-Alloc-clause-reply : goal.returns-in-Alloc-clause-reply
returns-in-Alloc-clause-reply c = of_step c.args.zone.now.plain c.args.seat.now.worker c.args.request.now _ c.args.pages.now _ c.page_answer.result c.in-Alloc.is c.alloc.ensures.reply (c.page_answer.ensures c.args.pages.now)

pub returns-in-AllocLow-clause-reply : goal.returns-in-AllocLow-clause-reply
returns-in-AllocLow-clause-reply c = of_step c.args.zone.now.plain c.args.seat.now.worker c.args.request.now _ c.args.pages.now _ c.block_answer.result c.in-AllocLow.is c.alloc_low.ensures.reply (c.block_answer.ensures c.args.pages.now)

pub returns-in-Collect-clause-reply : goal.returns-in-Collect-clause-reply
returns-in-Collect-clause-reply c = of_step c.args.zone.now.plain c.args.seat.now.worker c.args.request.now _ c.args.pages.now _ c.block_answer-in-Collect.result c.in-Collect.is c.collect.ensures.reply (c.block_answer-in-Collect.ensures c.args.pages.now)

pub returns-in-Isolate-clause-reply : goal.returns-in-Isolate-clause-reply
returns-in-Isolate-clause-reply c = of_step c.args.zone.now.plain c.args.seat.now.worker c.args.request.now _ c.args.pages.now _ c.isolate_answer.result c.in-Isolate.is c.isolate.ensures.reply (c.isolate_answer.ensures c.args.pages.now)

pub returns-in-Release-clause-reply : goal.returns-in-Release-clause-reply
returns-in-Release-clause-reply c = of_step c.args.zone.now.plain c.args.seat.now.worker c.args.request.now _ c.args.pages.now _ c.release_answer.result c.in-Release.is c.release.ensures.reply (c.release_answer.ensures c.args.pages.now)

pub returns-in-AllocRun-clause-reply : goal.returns-in-AllocRun-clause-reply
returns-in-AllocRun-clause-reply c = of_step c.args.zone.now.plain c.args.seat.now.worker c.args.request.now _ c.args.pages.now _ c.page_answer-in-AllocRun.result c.in-AllocRun.is c.alloc_run.ensures.reply (c.page_answer-in-AllocRun.ensures c.args.pages.now)

pub returns-in-AllocRunAt-clause-reply : goal.returns-in-AllocRunAt-clause-reply
returns-in-AllocRunAt-clause-reply c = of_step c.args.zone.now.plain c.args.seat.now.worker c.args.request.now _ c.args.pages.now _ c.page_answer-in-AllocRunAt.result c.in-AllocRunAt.is c.alloc_run_at.ensures.reply (c.page_answer-in-AllocRunAt.ensures c.args.pages.now)
