use Rattle.std.proofs.Common.{ℕ, arith, subst}
use Rattle.zp_trace.specs.Spelling.{lists_words}
use Rattle.zp_model.specs.Bounds.{AreLists}
use Rattle.zp_numbers.proofs.Numbers.{same_number}
use Rattle.zp_trace.proofs.WordLists.{word_at}
use Rattle.zp_trace.proofs.forms.lists_of.Goals as goal

pub returns-else-may_be_lists-clause-none : goal.returns-else-may_be_lists-clause-none
returns-else-may_be_lists-clause-none c batch high is e =
    let ws = c.args.words.now in
    let same_batch = same_number _ batch c.in_ok-batch.batch (omega (arith, is.most)) (omega (arith, c.in_ok-batch.ensures.fits)) (word_at ws _ 1 (lists_words batch high) e (omega arith)) c.in_ok-batch.ensures.some in
    let same_high = same_number _ high c.in_ok-high.high (omega (arith, is.longest)) (omega (arith, c.in_ok-high.ensures.fits)) (word_at ws _ 2 (lists_words batch high) e (omega arith)) c.in_ok-high.ensures.some in
    let lists = subst (λ (n : ℕ). AreLists n c.in_ok-high.high) same_batch (subst (λ (n : ℕ). AreLists batch n) same_high is) in
    let yes = c.if-may_be_lists.ensures.1 lists in
    cc
