use Rattle.std.proofs.Common.{arith, ◌∙◌, sym}
use Rattle.std.proofs.lemmas.Bool.{both_ways, false≢true}
use Rattle.zp_model.specs.Rows.{IsLoose}
use Rattle.zp_links.proofs.Writes.{linked_in}
use Rattle.zp_links.proofs.Telling.{past_loose, on_by_back, on_by_front}
use Rattle.zp_links.proofs.lists.Lists.on_any.Goals.{Then-index-len}
use Rattle.zp_links.proofs.lists.Lists.on_any.Goals as goal

pub returns-then-is_some-clause-on : goal.returns-then-is_some-clause-on
returns-then-is_some-clause-on c = (
  λ t. on_by_back _ _ _ (linked_in _ _ _ c.self.view_is c.self.invariant) c.args.at c.page.result (c.page.ensures ∙ c.back.ensures) (sym c.is_some.ensures ∙ c.if-is_some.true),
  λ w. c.if-is_some.true,
)

pub returns-else-is_some-clause-on : goal.returns-else-is_some-clause-on
returns-else-is_some-clause-on c =
    (on_by_front _ _ _ (linked_in _ _ _ c.self.view_is c.self.invariant) _ c.args.at c.page.result c.is_front.result c.deref.ensures.value
    (c.page.ensures ∙ c.back.ensures) (sym c.is_some.ensures ∙ c.if-is_some.false) c.is_front.ensures).0

pub returns-else-is_some-clause-loose : goal.returns-else-is_some-clause-loose
returns-else-is_some-clause-loose c =
    (on_by_front _ _ _ (linked_in _ _ _ c.self.view_is c.self.invariant) _ c.args.at c.page.result c.is_front.result c.deref.ensures.value
    (c.page.ensures ∙ c.back.ensures) (sym c.is_some.ensures ∙ c.if-is_some.false) c.is_front.ensures).1

past : (c : Then-index-len) → IsLoose c.args.self.now.lists c.args.at
past c = past_loose _ _ _ (linked_in _ _ _ c.self.view_is c.self.invariant) c.args.at (omega (arith, c.index.ensures.same, c.len.ensures.same, c.if-index-len.true))

pub returns-then-index-len-clause-on : goal.returns-then-index-len-clause-on
returns-then-index-len-clause-on c = (λ t. absurd (false≢true t), λ w. absurd (both_ways _ (past (goal.at.returns-then-index-len-clause-on c).Then-index-len w.0) w.1))

pub returns-then-index-len-clause-loose : goal.returns-then-index-len-clause-loose
returns-then-index-len-clause-loose c e = past (goal.at.returns-then-index-len-clause-loose c).Then-index-len
