use Rattle.std.proofs.Common.{ℕ, ◌≡◌, ◌<◌, ◌+◌, List, [], length, get_or, arith, ap, sym, subst, ◌∙◌}
use Rattle.std.specs.Borrow.{Bor}
use Rattle.std.proofs.lemmas.Bool.Decides.{nat_tests}
use Rattle.std.proofs.lemmas.List.{length-map}
use Rattle.zp_buddyinfo.specs.Rows.{spelled, lines_of, words_of, IsBadLine}
use Rattle.zp_buddyinfo.proofs.TableRows.{RowsSoFar, blank_so_far, row_so_far, bad_line, line_words, no_words}
use Rattle.zp_buddyinfo.proofs.table.read_table.Goals as goal

pub loop-index-preserved-then-is_empty : goal.loop-index-preserved-then-is_empty
loop-index-preserved-then-is_empty c =
    let lines = c.deref-line-items.result.now in
    let is = line_words lines c.in_ok-words.words.items c.loop-index.index c.loop-index-test.true c.in_ok-words.ensures in
    let none : length c.in_ok-words.words.items ≡ 0 = grind (arith, nat_tests, c.if-is_empty.ensures, c.in_ok-words.words.ok) in
    blank_so_far (spelled lines) c.loop-index.index c.loop-index.rows.items (omega (arith, c.loop-index-test.true, length-map lines (λ (w : Bor (List ℕ)). w.now))) c.loop-index.invariant (is ∙ no_words c.in_ok-words.words.items none)

-- the lines of the text, where they lie
same_lines : (text : List ℕ) (lines : List (Bor (List ℕ))) → spelled lines ≡ lines_of text → (i : ℕ) → i < length lines → i < length (lines_of text)
same_lines text lines e i lt = omega (arith, ap length e, length-map lines (λ (w : Bor (List ℕ)). w.now))

pub returns-in_default-clause-bad : goal.returns-in_default-clause-bad
returns-in_default-clause-bad c n is =
    let lines = c.deref-line-items.result.now in
    let same : spelled lines ≡ lines_of c.args.text.now = ap spelled c.deref-line-items.ensures.value ∙ c.in_ok-pieces.ensures in
    let words = line_words lines c.in_ok-words.words.items c.loop-index.index c.loop-index-test.true c.in_ok-words.ensures in
    let here = sym (ap (λ (ls : List (List ℕ)). words_of (get_or ls c.loop-index.index [])) same) ∙ words in
    let number : c.loop-index.index + 1 ≡ n = cc in
    subst (IsBadLine c.args.text.now) number
    (bad_line c.args.text.now c.loop-index.index c.loop-index.rows.items (same_lines c.args.text.now lines same c.loop-index.index c.loop-index-test.true)
    (subst (λ ls. RowsSoFar ls c.loop-index.index c.loop-index.rows.items) same c.loop-index.invariant)
    (λ none. let empty : length c.in_ok-words.words.items ≡ 0 = omega (arith, ap length (sym here ∙ none), length-map c.in_ok-words.words.items (λ (w : Bor (List ℕ)). w.now)) in grind (arith, nat_tests, c.if-is_empty.ensures, c.in_ok-words.words.ok))
    (λ node zone blocks row e. c.in_default.ensures.none node zone blocks row (ap spelled c.as_slice.ensures.value ∙ sym here ∙ e)))

pub loop-index-preserved : goal.loop-index-preserved
loop-index-preserved c =
    let lines = c.deref-line-items.result.now in
    let is = line_words lines c.in_ok-words.words.items c.loop-index.index c.loop-index-test.true c.in_ok-words.ensures in
    row_so_far (spelled lines) c.loop-index.index c.loop-index.rows.items _ c.in-Some.row (omega (arith, c.loop-index-test.true, length-map lines (λ (w : Bor (List ℕ)). w.now))) c.loop-index.invariant
    c.in-Some.ensures.some.0 (is ∙ sym (ap spelled c.as_slice.ensures.value) ∙ c.in-Some.ensures.some.1) c.in-Ok.ensures.items
