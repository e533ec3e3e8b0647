use Rattle.std.proofs.Common.{List, ℕ, ◌≡◌, ◌++◌, ◌∷◌, length, sym, ap, ◌∙◌, arith}
use Rattle.zp_trace.specs.Spelling.{line_feed, spelled, joined, AreWords}
use Rattle.zp_trace.proofs.WordLists.{first_line_unique, no_first_line, joined_cut, at_none}
use Rattle.zp_trace.proofs.words.first_line.Goals as goal

-- the text begins with no line of words
abbrev NoLine : List ℕ → Type 0
NoLine text = (words : List (List ℕ)) (more : List ℕ) → AreWords words → text ≡ joined words ++ line_feed ∷ more → ⊥

pub returns-in_err-line-clause-none : goal.returns-in_err-line-clause-none
returns-in_err-line-clause-none c =
    at_none _ {P = NoLine c.args.text.now} (λ words more w e. no_first_line c.args.text.now more words c.in_err-line.ensures.none e)

pub returns-in_err-words-clause-none : goal.returns-in_err-words-clause-none
returns-in_err-words-clause-none c =
    at_none _ {P = NoLine c.args.text.now} (λ words more w e.
    let r = first_line_unique c.in_ok-line.line.now c.in_ok-line.rest.now more words c.in_ok-line.ensures.some.1 w (sym c.in_ok-line.ensures.some.0 ∙ e) in
    omega (arith, ap length r.0, w.1, c.in_err-words.ensures.none))

pub returns-clause-text : goal.returns-clause-text
returns-clause-text c =
    c.in_ok-line.ensures.some.0 ∙ ap (λ (line : List ℕ). line ++ line_feed ∷ c.in_ok-line.rest.now) (joined_cut (spelled c.in_ok-words.words.items) c.in_ok-line.line.now c.in_ok-words.ensures.some)

pub returns-clause-only : goal.returns-clause-only
returns-clause-only c = λ words more w e.
    let r = first_line_unique c.in_ok-line.line.now c.in_ok-line.rest.now more words c.in_ok-line.ensures.some.1 w (sym c.in_ok-line.ensures.some.0 ∙ e) in
    (c.in_ok-words.ensures.some ∙ r.0, r.1)
