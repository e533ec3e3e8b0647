use Rattle.std.proofs.Common.{List, ℕ, ◌≡◌, refl, sym, arith, subst}
use Rattle.zp_model.specs.declared.migrate_type.MigrateType.{MigrateType}
use Rattle.zp_model.specs.declared.mark.Mark.{Mark}
use Rattle.zp_model.specs.Naming.{IsName}
use Rattle.zp_trace.specs.declared.line.Call.TheVariants.{Alloc}
use Rattle.zp_trace.specs.declared.trace.Header.{Header}
use Rattle.zp_trace.specs.Spelling.{spelled, call_words}
use Rattle.zp_trace.specs.Grammar.{IsCallOf}
use Rattle.zp_trace.proofs.WordLists.{at_none, word_at, six, nowhere}
use Rattle.zp_trace.proofs.calls.alloc_of.Goals as goal

-- no alloc has these words
abbrev NoAlloc : Header → List (List ℕ) → Type 0
NoAlloc h words = (label : List ℕ) (order : ℕ) (kind : MigrateType) (zone : List ℕ) (mark : Mark) → IsCallOf h (Alloc label order kind zone mark) → words ≡ call_words (Alloc label order kind zone mark) → ⊥

pub returns-in_err-order-clause-none : goal.returns-in_err-order-clause-none
returns-in_err-order-clause-none c =
    at_none _ {P = NoAlloc c.args.header.now (spelled c.args.words.now)} (λ label order kind zone mark is e. c.in_err-order.ensures.none order is.1 (word_at c.args.words.now _ 2 (call_words (Alloc label order kind zone mark)) e (omega arith)))

pub returns-in_err-kind-clause-none : goal.returns-in_err-kind-clause-none
returns-in_err-kind-clause-none c =
    at_none _ {P = NoAlloc c.args.header.now (spelled c.args.words.now)} (λ label order kind zone mark is e. c.in_err-kind.ensures.none kind (word_at c.args.words.now _ 3 (call_words (Alloc label order kind zone mark)) e (omega arith)))

pub returns-in_err-zone-clause-none : goal.returns-in_err-zone-clause-none
returns-in_err-zone-clause-none c =
    at_none _ {P = NoAlloc c.args.header.now (spelled c.args.words.now)} (λ label order kind zone mark is e. c.in_err-zone.ensures.none zone is.2 (word_at c.args.words.now _ 4 (call_words (Alloc label order kind zone mark)) e (omega arith)))

pub returns-in_err-mark-clause-none : goal.returns-in_err-mark-clause-none
returns-in_err-mark-clause-none c =
    at_none _ {P = NoAlloc c.args.header.now (spelled c.args.words.now)} (λ label order kind zone mark is e. c.in_err-mark.ensures.none mark (word_at c.args.words.now _ 5 (call_words (Alloc label order kind zone mark)) e (omega arith)))

pub returns-clause-some : goal.returns-clause-some
returns-clause-some c =
    ((subst IsName (sym c.in_ok-label.ensures.some) (c.in_ok-label.ensures.when.0 refl), c.in_ok-order.ensures.some.0, c.in_ok-zone.ensures.some.0), six c.args.words.now nowhere c.in-len6.len_at_least c.in-len6.len_below (c.if-not-is_text.ensures.0 refl) (sym c.in_ok-label.ensures.some) c.in_ok-order.ensures.some.1 c.in_ok-kind.ensures.some c.in_ok-zone.ensures.some.1 c.in_ok-mark.ensures.some)
