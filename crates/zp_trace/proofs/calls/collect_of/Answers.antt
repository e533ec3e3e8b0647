use Rattle.std.proofs.Common.{List, ℕ, ◌≡◌, refl, sym, arith, subst}
use Rattle.zp_model.specs.Naming.{IsName}
use Rattle.zp_trace.specs.declared.line.Call.TheVariants.{Collect}
use Rattle.zp_trace.specs.declared.trace.Header.{Header}
use Rattle.zp_trace.specs.Spelling.{spelled, call_words}
use Rattle.zp_trace.specs.Grammar.{IsCallOf}
use Rattle.zp_trace.proofs.WordLists.{at_none, word_at, three, nowhere}
use Rattle.zp_trace.proofs.calls.collect_of.Goals as goal

-- no collect has these words
abbrev NoCollect : Header → List (List ℕ) → Type 0
NoCollect h words = (label zone : List ℕ) → IsCallOf h (Collect label zone) → words ≡ call_words (Collect label zone) → ⊥

pub returns-in_err-zone-clause-none : goal.returns-in_err-zone-clause-none
returns-in_err-zone-clause-none c =
    at_none _ {P = NoCollect c.args.header.now (spelled c.args.words.now)} (λ label zone is e. c.in_err-zone.ensures.none zone is.1 (word_at c.args.words.now _ 2 (call_words (Collect label zone)) e (omega arith)))

pub returns-clause-some : goal.returns-clause-some
returns-clause-some c =
    ((subst IsName (sym c.in_ok-label.ensures.some) (c.in_ok-label.ensures.when.0 refl), c.in_ok-zone.ensures.some.0), three c.args.words.now nowhere c.in-len3.len_at_least c.in-len3.len_below (c.if-not-is_text.ensures.0 refl) (sym c.in_ok-label.ensures.some) c.in_ok-zone.ensures.some.1)
