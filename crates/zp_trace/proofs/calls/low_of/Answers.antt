use Rattle.std.proofs.Common.{List, ℕ, ◌≡◌, refl, sym, arith, subst}
use Rattle.zp_model.specs.Naming.{IsName}
use Rattle.zp_trace.specs.declared.line.Call.TheVariants.{Low}
use Rattle.zp_trace.specs.declared.trace.Header.{Header}
use Rattle.zp_trace.specs.Spelling.{spelled, call_words}
use Rattle.zp_trace.specs.Grammar.{IsCallOf}
use Rattle.zp_trace.proofs.WordLists.{at_none, word_at, four, nowhere}
use Rattle.zp_trace.proofs.calls.low_of.Goals as goal

-- no low has these words
abbrev NoLow : Header → List (List ℕ) → Type 0
NoLow h words = (label : List ℕ) (order : ℕ) (zone : List ℕ) → IsCallOf h (Low label order zone) → words ≡ call_words (Low label order zone) → ⊥

pub returns-in_err-zone-clause-none : goal.returns-in_err-zone-clause-none
returns-in_err-zone-clause-none c =
    at_none _ {P = NoLow c.args.header.now (spelled c.args.words.now)} (λ label order zone is e. c.in_err-zone.ensures.none zone is.2 (word_at c.args.words.now _ 3 (call_words (Low label order zone)) e (omega arith)))

pub returns-clause-some : goal.returns-clause-some
returns-clause-some c =
    ((subst IsName (sym c.in_ok-label.ensures.some) (c.in_ok-label.ensures.when.0 refl), c.in_ok-order.ensures.some.0, c.in_ok-zone.ensures.some.0), four c.args.words.now nowhere c.in-len4.len_at_least c.in-len4.len_below (c.if-not-is_text.ensures.0 refl) (sym c.in_ok-label.ensures.some) c.in_ok-order.ensures.some.1 c.in_ok-zone.ensures.some.1)
