use Rattle.std.proofs.Common.{List, ℕ, ◌≡◌, sym, ap, arith, subst, refl, ◌∙◌}
use Rattle.std.proofs.lemmas.List.{take_rest}
use Rattle.std.specs.Fmt.{decimal}
use Rattle.zp_trace.specs.declared.line.ZoneLine.{ZoneLine}
use Rattle.zp_model.specs.Naming.{IsName}
use Rattle.zp_trace.specs.Spelling.{spelled, largest_words, zone_words}
use Rattle.zp_trace.specs.Grammar.{IsZoneLine}
use Rattle.zp_numbers.proofs.Numbers.{same_number}
use Rattle.zp_trace.proofs.WordLists.{at_none, word_at, after_five, five_and, nowhere}
use Rattle.zp_trace.proofs.forms.zone_of.Goals as goal

-- no zone line has these words
abbrev NoZone : List (List ℕ) → Type 0
NoZone words = (z : ZoneLine) → IsZoneLine z → words ≡ zone_words z → ⊥

pub returns-in_err-pages-clause-none : goal.returns-in_err-pages-clause-none
returns-in_err-pages-clause-none c =
    at_none _ {P = NoZone (spelled c.args.words.now)} (λ z is e. c.in_err-pages.ensures.none z.pages is.2 (word_at c.args.words.now _ 3 (zone_words z) e (omega arith)))

pub returns-in_err-min-clause-none : goal.returns-in_err-min-clause-none
returns-in_err-min-clause-none c =
    at_none _ {P = NoZone (spelled c.args.words.now)} (λ z is e.
    let pages_word = word_at c.args.words.now _ 3 (zone_words z) e (omega arith) in
    let pages = same_number (decimal z.pages) z.pages c.in_ok-pages.pages (omega (arith, is.2.1)) (omega (arith, c.in_ok-pages.ensures.some.0.1)) refl (sym pages_word ∙ c.in_ok-pages.ensures.some.1) in
    c.in_err-min.ensures.none z.min (omega (arith, is.3, pages)) (word_at c.args.words.now _ 4 (zone_words z) e (omega arith)))

pub returns-clause-some : goal.returns-clause-some
returns-clause-some c =
    ((subst IsName (sym c.in_ok-name.ensures.some) (c.in_ok-name.ensures.when.0 refl), c.in_ok-base.ensures.some.0, c.in_ok-pages.ensures.some.0, c.in_ok-min.ensures.some.0, c.in_ok-largest.ensures.some.0), five_and c.args.words.now nowhere c.in-len5-up.len_at_least (c.if-not-is_text.ensures.0 refl) (sym c.in_ok-name.ensures.some) c.in_ok-base.ensures.some.1 c.in_ok-pages.ensures.some.1 c.in_ok-min.ensures.some.1 (ap spelled (sym (take_rest c.args.words.now 5)) ∙ c.in_ok-largest.ensures.some.1))

pub returns-in_err-largest-clause-none : goal.returns-in_err-largest-clause-none
returns-in_err-largest-clause-none c =
    at_none _ {P = NoZone (spelled c.args.words.now)} (λ z is e. c.in_err-largest.ensures.none z.largest is.4
    (ap spelled (take_rest c.args.words.now 5) ∙ after_five c.args.words.now _ _ _ _ _ (largest_words z.largest) e))
