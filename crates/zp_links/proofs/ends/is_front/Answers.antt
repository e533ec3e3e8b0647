use Rattle.std.proofs.Common.{◌≡◌, ◌∙◌, sym, Some, below_more}
use Rattle.std.proofs.lemmas.Bool.{eqb-false}
use Rattle.zp_links.proofs.Telling.{front_read, front_within}
use Rattle.zp_links.proofs.ends.is_front.Goals as goal
use Rattle.zp_links.proofs.ends.is_front.Goals.{in-Some+else-eq, in_default}

pub loop-end-preserved : goal.loop-end-preserved
loop-end-preserved c = below_more _ _ c.loop-end.invariant (λ e.
    let f : c.end-item.result.first ≡ Some c.args.at = sym (front_read c.args.ends.now c.loop-end.end-index c.end-item.result c.loop-end-test.true c.end-item.is) ∙ e in
    elim c.match-page.branch [
      | in-Some+else-eq w ↦
          let s : Some w.in-Some.page ≡ Some c.args.at = sym w.in-Some.is ∙ c.page.ensures ∙ f in
          eqb-false w.in-Some.page c.args.at (sym w.eq.ensures ∙ w.if-eq.false) cc
      | in_default w ↦ w.in_default.not-Some c.args.at (c.page.ensures ∙ f)
    ])

pub returns : goal.returns
returns c = (λ t. absurd cc, λ w. absurd (front_within c.args.ends.now c.loop-end.end-index w.0 c.args.at c.loop-end-test.false c.loop-end.invariant w.1))
