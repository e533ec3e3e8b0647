use Rattle.std.proofs.Common.{◌≡◌, ◌<◌, ◌^◌, inl, inr, arith, refl}
use Rattle.std.proofs.lemmas.Bool.{both_ways, cases_lt, false≢true, false_from_ne_true}
use Rattle.std.proofs.lemmas.Nat.{pow_pos}
use Rattle.zp_model.specs.Rows.{IsLoose}
use Rattle.zp_buddy.proofs.ClearByLooks.{larger_free, listed_not_clear, clear_decided}
use Rattle.zp_buddy.proofs.clear.is_clear_run.Goals as goal

pub returns-then-is_in_larger : goal.returns-then-is_in_larger
returns-then-is_in_larger c = (
  λ e. absurd (false≢true e),
  λ clear.
      let w = c.is_in_larger.ensures.0 c.if-is_in_larger.true in
      let pos : 0 < 2 ^ c.args.order = pow_pos c.args.order in
      absurd (both_ways _ (clear c.args.at (omega arith) (omega arith)).0 (larger_free c.args.area.now.largest c.args.area.now c.pages-pages.ensures.one c.args.at w.0 w.3)),
)

pub returns-then-on_any : goal.returns-then-on_any
returns-then-on_any c = (
  λ e. absurd (false≢true e),
  λ clear.
      let w = c.on_any.ensures.0 c.if-on_any.true in
      absurd (listed_not_clear c.args.area.now.largest c.args.area.now c.pages-pages.ensures.one w.0 c.at.result c.args.at c.args.order w.1 (omega arith) (omega arith) clear),
)

pub pages-preserved : goal.pages-preserved
pages-preserved c =
    let here : IsLoose c.args.area.now.rows.lists c.at.result = λ r. false_from_ne_true _ (λ on. both_ways _ c.if-on_any.false (c.on_any.ensures.1 (r, on))) in
    λ p ge lt. elim (cases_lt p c.pages.i) [
      | inl before ↦ c.pages.invariant p ge before
      | inr past ↦ let same : c.at.result ≡ p = omega arith in rw same at here
    ]

pub returns : goal.returns
returns c = (
  λ t. clear_decided c.args.area.now.largest c.args.area.now c.pages-pages.ensures.one c.args.at c.args.order c.requires (λ i lo hi. c.pages.invariant i lo (omega arith))
      (λ j lt le st. both_ways _ c.if-is_in_larger.false (c.is_in_larger.ensures.1 (j, lt, le, st))),
  λ clear. refl,
)
