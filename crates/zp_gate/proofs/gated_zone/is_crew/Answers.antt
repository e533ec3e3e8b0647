use Rattle.std.proofs.Common.{◌≡◌, ◌==◌, arith, sym, ◌∙◌}
use Rattle.std.specs.List.{count_by}
use Rattle.zp_share.specs.Shares.{ShareState}
use borrow.Author.Count.{below_more}
use Rattle.zp_gate.proofs.gated_zone.is_crew.Goals as goal

pub loop-number-preserved : goal.loop-number-preserved
loop-number-preserved c =
    below_more (λ w. count_by (λ (s : ShareState). s.worker == w) c.args.shares.now ≡ 1) c.loop-number.number c.loop-number.invariant
    (sym c.shares_of.ensures ∙ c.if-shares_of-ne1.false)

pub returns-clause-yes : goal.returns-clause-yes
returns-clause-yes c = λ yes w lt. c.loop-number.invariant w (omega (arith, lt, c.loop-number-test.false))

pub returns-then-shares_of-ne1-clause-no : goal.returns-then-shares_of-ne1-clause-no
returns-then-shares_of-ne1-clause-no c = λ no all. c.if-shares_of-ne1.true (c.shares_of.ensures ∙ all c.loop-number.number c.loop-number-test.true)
