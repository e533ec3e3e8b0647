use Rattle.std.proofs.Common.{◌-◌, List, ap, ◌∙◌, refl}
use Rattle.std.specs.Prelude.{slice_set}
use Rattle.zp_share.specs.declared.page_use.PageUse.{PageUse}
use Rattle.zp_share.specs.PageUses.{UsesState}
use Rattle.zp_share.proofs.OneUse.{one_more_use}
use Rattle.zp_share.proofs.page_uses.put_all.Goals as goal

pub loop-page-preserved : goal.loop-page-preserved
loop-page-preserved c =
    let U : List PageUse → UsesState = λ us. record { base = c.args.base; uses = us } in
    ap (λ p. slice_set c.loop-page.uses (p - c.args.base) c.args.packed) c.number.ensures.same
    ∙ ap (λ (u : UsesState). u.uses)
    (one_more_use (U c.args.uses.now) (U c.loop-page.uses) (U (slice_set c.loop-page.uses (c.page-item.result - c.args.base) c.args.packed)) c.args.packed c.loop-page.page-index c.page-item.result
    c.args.pages.now c.loop-page-test.true c.page-item.is (ap U c.loop-page.invariant) refl)
