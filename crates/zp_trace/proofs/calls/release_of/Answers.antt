use Rattle.std.proofs.Common.{List, ℕ, ◌≡◌, refl, arith}
use Rattle.zp_model.specs.declared.migrate_type.MigrateType.{MigrateType}
use Rattle.zp_trace.specs.declared.line.Call.TheVariants.{Release}
use Rattle.zp_trace.specs.declared.trace.Header.{Header}
use Rattle.zp_trace.specs.Spelling.{spelled, call_words}
use Rattle.zp_trace.specs.Grammar.{IsCallOf}
use Rattle.zp_trace.proofs.WordLists.{at_none, word_at, four, nowhere}
use Rattle.zp_trace.proofs.calls.release_of.Goals as goal

-- no release has these words
abbrev NoRelease : Header → List (List ℕ) → Type 0
NoRelease h words = (zone : List ℕ) (pageblock : ℕ) (kind : MigrateType) → IsCallOf h (Release zone pageblock kind) → words ≡ call_words (Release zone pageblock kind) → ⊥

pub returns-in_err-zone-clause-none : goal.returns-in_err-zone-clause-none
returns-in_err-zone-clause-none c =
    at_none _ {P = NoRelease c.args.header.now (spelled c.args.words.now)} (λ zone pageblock kind is e. c.in_err-zone.ensures.none zone is.0 (word_at c.args.words.now _ 1 (call_words (Release zone pageblock kind)) e (omega arith)))

pub returns-in_err-pageblock-clause-none : goal.returns-in_err-pageblock-clause-none
returns-in_err-pageblock-clause-none c =
    at_none _ {P = NoRelease c.args.header.now (spelled c.args.words.now)} (λ zone pageblock kind is e. c.in_err-pageblock.ensures.none pageblock is.1 (word_at c.args.words.now _ 2 (call_words (Release zone pageblock kind)) e (omega arith)))

pub returns-in_err-kind-clause-none : goal.returns-in_err-kind-clause-none
returns-in_err-kind-clause-none c =
    at_none _ {P = NoRelease c.args.header.now (spelled c.args.words.now)} (λ zone pageblock kind is e. c.in_err-kind.ensures.none kind (word_at c.args.words.now _ 3 (call_words (Release zone pageblock kind)) e (omega arith)))

pub returns-clause-some : goal.returns-clause-some
returns-clause-some c =
    ((c.in_ok-zone.ensures.some.0, c.in_ok-pageblock.ensures.some.0), four c.args.words.now nowhere c.in-len4.len_at_least c.in-len4.len_below (c.if-not-is_text.ensures.0 refl) c.in_ok-zone.ensures.some.1 c.in_ok-pageblock.ensures.some.1 c.in_ok-kind.ensures.some)
