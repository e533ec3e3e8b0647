use Rattle.std.proofs.Common.{inl, inr, sym, arith}
use Rattle.std.proofs.lemmas.Bool.{cases_lt}
use Rattle.zp_model.proofs.Heads.{head_le, lt_head}
use Rattle.zp_share.proofs.RunUses.{block_lent, run_from, run_not, run_not_page}
use Rattle.zp_share.proofs.page_uses.PageUses.are_lent.Goals as goal

pub returns-in_default : goal.returns-in_default
returns-in_default c = sym (run_not c.args.self.now.base c.args.page c.args.pages c.args.self.now.uses c.in_default.ensures.none)

pub returns-in_default-lent_order : goal.returns-in_default-lent_order
returns-in_default-lent_order c =
    let at = c.in-Some.ensures.some in
    sym (run_not_page c.args.self.now.base c.args.page c.args.pages c.looks.next c.args.self.now.uses (omega (arith, at.1, c.looks.invariant.from)) (omega (arith, at.1, c.looks-test.true)) c.in_default-lent_order.ensures.none)

pub looks-preserved : goal.looks-preserved
looks-preserved c =
    let k = c.in-Some-lent_order.order in
    let past = lt_head c.looks.next k in
    record {
      from = omega (arith, past, c.head_of.ensures, c.pages.ensures.pages, c.looks.invariant.from);
      lent = λ i lo hi. elim (cases_lt i c.looks.next) [
        | inl before ↦ c.looks.invariant.lent i lo before
        | inr here ↦
            block_lent c.args.self.now.uses c.looks.next k i c.in-Some-lent_order.ensures.below c.in-Some-lent_order.ensures.some (omega (arith, head_le c.looks.next k, here))
            (omega (arith, hi, c.head_of.ensures, c.pages.ensures.pages))
      ];
    }

pub returns : goal.returns
returns c =
    let at = c.in-Some.ensures.some in
    sym (run_from c.args.self.now.base c.args.page c.args.pages c.args.self.now.uses at.0 at.2 (omega (arith, at.1, at.3))
    (λ i lo hi. c.looks.invariant.lent i (omega (arith, lo, at.1)) (omega (arith, hi, at.1, c.looks-test.false))))
