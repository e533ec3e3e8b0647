use Rattle.std.proofs.Common.{◌≡◌, arith, refl, sym, ◌∙◌, inl, inr}
use Rattle.std.proofs.lemmas.Bool.{both_ways, false≢true, false_from_ne_true, cases_lt}
use Rattle.zp_plain.proofs.frames.is_clear_run.Goals as goal
use Rattle.zp_plain.proofs.frames.is_clear_run.Goals.{then-has-via-then-has, then-has-via-else-has+then-is_aside}

pub returns-then-has : goal.returns-then-has
returns-then-has c = (
  λ t. absurd (false≢true t),
  λ f.
      let y = f c.pages.i (omega (arith, c.index-i.ensures.same)) (omega (arith, c.index-i.ensures.same)) in
      absurd (elim c.then-has.branch [
        | then-has-via-then-has w ↦ both_ways _ y.0 (sym c.has.ensures ∙ w.if-has.true)
        | then-has-via-else-has+then-is_aside w ↦ let z = w.is_aside.ensures.0 w.if-is_aside.true in both_ways _ (y.1 z.0) (rw w.at.ensures at z.1)
      ]),
)

pub pages-preserved : goal.pages-preserved
pages-preserved c p ge lt = elim (cases_lt p c.pages.i) [
  | inl before ↦ c.pages.invariant p ge before
  | inr past ↦
      let same : p ≡ c.pages.i = omega arith in
      rw same (sym c.has.ensures ∙ c.if-has.false, λ r. false_from_ne_true _ (λ t. both_ways _ c.if-is_aside.false (c.is_aside.ensures.1 (r, rw c.at.ensures t))))
]

pub returns : goal.returns
returns c = (λ t i ge lt. c.pages.invariant i ge (omega (arith, c.index-i.ensures.same)), λ f. refl)
