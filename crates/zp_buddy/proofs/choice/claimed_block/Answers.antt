use Rattle.std.proofs.Common.{sym, arith, ◌∙◌, ap}
use Rattle.zp_area.specs.Blocks.{Blocks}
use Rattle.zp_buddy.proofs.Choosing.{nothing_claimed, too_small, may_not, claimed_found}
use Rattle.zp_buddy.proofs.choice.claimed_block.Goals as goal
use Rattle.zp_buddy.proofs.choice.claimed_block.Goals.{then-number-via-then-number, then-number-via-else-number+then-not-may_claim}

pub returns-in_err-largest-clause-answer : goal.returns-in_err-largest-clause-answer
returns-in_err-largest-clause-answer c = rw c.from_residual.ensures (nothing_claimed c.args.area.now.largest c.args.area.now c.args.kind c.pages-pages.ensures.one c.args.order c.in_err-largest.ensures.answer)

pub returns-then-number-clause-answer : goal.returns-then-number-clause-answer
returns-then-number-clause-answer c =
    let one = c.pages-pages.ensures.one in
    let y = c.in_ok-largest.ensures.answer in
    elim c.then-number.branch [
      | then-number-via-then-number w ↦ too_small c.args.area.now.largest c.args.area.now c.args.kind one c.args.order c.in_ok-largest.largest y (omega arith)
      | then-number-via-else-number+then-not-may_claim w ↦ may_not c.args.area.now.largest c.args.area.now c.args.kind one c.args.order c.in_ok-largest.largest y (rw (w.largest.ensures ∙ ap (λ (b : Blocks). b.largest) c.in_ok-largest.ensures.same) at (sym w.may_claim.ensures ∙ w.if-not-may_claim.true))
    ]

pub returns-clause-answer : goal.returns-clause-answer
returns-clause-answer c =
    claimed_found c.args.area.now.largest c.args.area.now c.args.kind c.pages-pages.ensures.one c.args.order c.in_ok-largest.largest c.half_free_of.result c.in_ok-largest.ensures.answer (omega arith)
    (rw (c.largest.ensures ∙ ap (λ (b : Blocks). b.largest) c.in_ok-largest.ensures.same) at (sym c.may_claim.ensures ∙ c.if-not-may_claim.false)) (rw (← c.fallbacks.ensures, ← c.in_ok-largest.ensures.same) c.half_free_of.ensures)
