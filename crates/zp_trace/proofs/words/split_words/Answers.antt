use Rattle.std.proofs.Common.{List, ℕ, ◌++◌, ap, ◌∙◌, arith}
use Rattle.std.proofs.lemmas.Bool.Decides.{nat_tests}
use Rattle.std.specs.Borrow.{Bor}
use Rattle.zp_trace.specs.Spelling.{spelled}
use Rattle.zp_trace.proofs.WordLists.{cut, cut_more, cut_last, cut_full}
use Rattle.zp_trace.proofs.words.split_words.Goals as goal

pub returns-then-is_full-clause-none : goal.returns-then-is_full-clause-none
returns-then-is_full-clause-none c =
    cut_full c.loop-word.words.items c.loop-word.rest.now c.args.line.now _ c.loop-word.invariant (grind (arith, nat_tests))

pub loop-word-preserved : goal.loop-word-preserved
loop-word-preserved c =
    ap (λ (ws : List (Bor (List ℕ))). spelled ws ++ cut c.in-Some.after.now) c.push.ensures.items
    ∙ cut_more c.loop-word.words.items c.in-Some.word c.loop-word.rest.now c.in-Some.after.now c.args.line.now c.in-Some.ensures.some.0 c.in-Some.ensures.some.1 c.loop-word.invariant

pub returns-clause-some : goal.returns-clause-some
returns-clause-some c =
    ap spelled c.push-2.ensures.items
    ∙ cut_last c.loop-word.words.items c.loop-word.rest c.args.line.now c.in_default.ensures.none c.loop-word.invariant
