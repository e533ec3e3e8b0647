-- The entries of a journal with their numbers, line by line.
use Rattle.std.proofs.Common.{ℕ, ◌+◌, ◌-◌, ◌≡◌, ◌<◌, ◌≤◌, List, length, take, get_or, sym, ap, ◌∙◌, arith}
use Rattle.std.specs.Prelude.{Some, slice_get}
use Rattle.std.specs.List.{flat_map, range_with_len, zip}
use Rattle.std.proofs.lemmas.List.{take_all}
use Rattle.std.proofs.lemmas.List.FromFn.{get_or-range_with_len, length-range_with_len}
use Rattle.std.proofs.lemmas.Option.{get_or_from_slice_get}
use Rattle.std.proofs.lemmas.Slice.Zip.{length-zip, get_or-zip}
use Rattle.zp_model.specs.Entries.{Entry}
use Rattle.zp_text.specs.JournalText.{entry_line, journal_text}

abbrev pub line_of : List ℕ → ℕ × Entry → List ℕ
line_of name p = entry_line name p.0 p.1

abbrev pub numbered : List Entry → List (ℕ × Entry)
numbered es = zip (range_with_len 1 (length es)) es

pub length-numbered : (es : List Entry) → length (numbered es) ≡ length es
length-numbered es = omega (arith, length-zip (range_with_len 1 (length es)) es, length-range_with_len 1 (length es))

-- an entry at its place, with its number
pub numbered_here : (es : List Entry) (i n m : ℕ) (e : Entry) → i < length es → n ≡ i + 1 → m ≡ i + 1 → slice_get es (m - 1) ≡ Some e →
    (n, e) ≡ get_or (numbered es) i (n, e)
numbered_here es i n m e lt number entry is =
    let place : m - 1 ≡ i = omega arith in
    let first : 1 + i ≡ n = omega arith in
    let there : get_or es i e ≡ e = get_or_from_slice_get es i e e (ap (λ j. slice_get es j) (sym place) ∙ is) in
    sym
    (get_or-zip (range_with_len 1 (length es)) es i (n, e) (omega (arith, lt, length-range_with_len 1 (length es))) lt
    ∙ ap (λ k. (k, get_or es i e)) (get_or-range_with_len 1 (length es) i n lt ∙ first)
    ∙ ap (λ (x : Entry). (n, x)) there)

pub numbered_place : (es : List Entry) (i : ℕ) → i < length es → i < length (numbered es)
numbered_place es i lt = omega (arith, lt, length-numbered es)

-- after the last entry
pub numbered_end : (name : List ℕ) (es : List Entry) (i : ℕ) → length es ≤ i → flat_map (line_of name) (take i (numbered es)) ≡ journal_text name es
numbered_end name es i le = ap (λ ps. flat_map (line_of name) ps) (take_all i (numbered es) (omega (arith, le, length-numbered es)))
