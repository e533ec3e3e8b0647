use Rattle.std.proofs.Common.{inl, inr, sym, arith}
use Rattle.std.proofs.lemmas.Bool.{cases_lt}
use Rattle.zp_model.specs.Block.{head}
use Rattle.zp_model.proofs.Heads.{head_le, lt_head}
use Rattle.zp_zone.proofs.RunsGiven.{lent_all, lent_block, lent_inside_zone, lent_not}
use Rattle.zp_zone.proofs.untied_zone.UntiedZone.is_lent_run.Goals as goal

pub overflow_add-next : goal.overflow_add-next
overflow_add-next c = omega (arith, lent_inside_zone _ _ _ _ c.lawful.ensures c.in-Some.ensures.some, c.pages-pages.ensures.pages, c.pages-pages.ensures.within, c.head.ensures)

pub looks-preserved : goal.looks-preserved
looks-preserved c =
    let i = c.looks.invariant in
    let past = lt_head c.at-place.result c.in-Some.order in
    record {
      from = omega (arith, past, c.head.ensures);
      within = omega (arith, lent_inside_zone _ _ _ _ c.lawful.ensures c.in-Some.ensures.some, c.head.ensures);
      lent = λ p lo hi. elim (cases_lt p c.looks.next) [
        | inl before ↦ i.lent p lo before
        | inr here ↦ lent_block _ _ _ _ p c.lawful.ensures c.in-Some.ensures.some (omega (arith, head_le c.at-place.result c.in-Some.order)) (omega (arith, c.head.ensures))
      ];
    }

pub looks-smaller : goal.looks-smaller
looks-smaller c = omega (arith, lt_head c.at-place.result c.in-Some.order, c.head.ensures)

pub returns-in_default : goal.returns-in_default
returns-in_default c =
    sym (lent_not c.args.self.now.plain c.args.worker c.args.at c.args.pages c.at-place.result (omega (arith, c.at-place.ensures, c.looks.invariant.from))
    (omega (arith, c.at-place.ensures, c.looks-test.true, c.number-next.ensures.same)) c.in_default.ensures.none)

pub returns : goal.returns
returns c =
    sym (lent_all c.args.self.now.plain c.args.worker c.args.at c.args.pages (λ i lo hi. c.looks.invariant.lent i lo (omega (arith, c.looks-test.false, c.number-next.ensures.same))))
