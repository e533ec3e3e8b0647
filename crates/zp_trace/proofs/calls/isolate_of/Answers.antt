use Rattle.std.proofs.Common.{List, ℕ, ◌≡◌, refl, arith}
use Rattle.zp_trace.specs.declared.line.Call.TheVariants.{Isolate}
use Rattle.zp_trace.specs.declared.trace.Header.{Header}
use Rattle.zp_trace.specs.Spelling.{spelled, call_words}
use Rattle.zp_trace.specs.Grammar.{IsCallOf}
use Rattle.zp_trace.proofs.WordLists.{at_none, word_at, three, nowhere}
use Rattle.zp_trace.proofs.calls.isolate_of.Goals as goal

-- no isolate has these words
abbrev NoIsolate : Header → List (List ℕ) → Type 0
NoIsolate h words = (zone : List ℕ) (pageblock : ℕ) → IsCallOf h (Isolate zone pageblock) → words ≡ call_words (Isolate zone pageblock) → ⊥

pub returns-in_err-zone-clause-none : goal.returns-in_err-zone-clause-none
returns-in_err-zone-clause-none c =
    at_none _ {P = NoIsolate c.args.header.now (spelled c.args.words.now)} (λ zone pageblock is e. c.in_err-zone.ensures.none zone is.0 (word_at c.args.words.now _ 1 (call_words (Isolate zone pageblock)) e (omega arith)))

pub returns-in_err-pageblock-clause-none : goal.returns-in_err-pageblock-clause-none
returns-in_err-pageblock-clause-none c =
    at_none _ {P = NoIsolate c.args.header.now (spelled c.args.words.now)} (λ zone pageblock is e. c.in_err-pageblock.ensures.none pageblock is.1 (word_at c.args.words.now _ 2 (call_words (Isolate zone pageblock)) e (omega arith)))

pub returns-clause-some : goal.returns-clause-some
returns-clause-some c =
    ((c.in_ok-zone.ensures.some.0, c.in_ok-pageblock.ensures.some.0), three c.args.words.now nowhere c.in-len3.len_at_least c.in-len3.len_below (c.if-not-is_text.ensures.0 refl) c.in_ok-zone.ensures.some.1 c.in_ok-pageblock.ensures.some.1)
