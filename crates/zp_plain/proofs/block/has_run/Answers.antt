use Rattle.std.proofs.Common.{ℕ, ◌≡◌, ◌≤◌, ◌<◌, ◌+◌, ◌-◌, ◌^◌, true, false, arith, sym, ◌∙◌}
use Rattle.std.proofs.lemmas.Bool.{both_ways, false_from_ne_true}
use Rattle.zp_model.specs.Block.{has}
use Rattle.zp_model.proofs.Pages.{has_run-to, has_run-from}
use Rattle.zp_plain.proofs.block.has_run.Goals as goal

pub returns-then-not-has : goal.returns-then-not-has
returns-then-not-has c =
    let e : has c.args.set.now (c.index.result + c.pages.i) ≡ false = sym c.has.ensures ∙ c.if-not-has.true in
    let within = has_run-to c.args.set.now c.args.head c.args.order in
    sym (false_from_ne_true _ (λ t. both_ways _ e (within t (c.index.result + c.pages.i) (omega (arith, c.index.ensures.same)) (omega (arith, c.index.ensures.same, c.pages-i-end.ensures.pages)))))

pub returns : goal.returns
returns c =
    let all : (p : ℕ) → c.args.head ≤ p → p < c.args.head + 2 ^ c.args.order → has c.args.set.now p ≡ true = λ p ge lt. let same : c.args.head + (p - c.args.head) ≡ p = omega arith in rw same at (c.pages.invariant (p - c.args.head) (omega (arith, c.pages-i-end.ensures.pages))) in
    sym (has_run-from c.args.set.now c.args.head c.args.order all)
