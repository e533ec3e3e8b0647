-- Beginnings of mapped lists, and lists element by element.
use Rattle.std.proofs.Common.{◌≡◌, ℕ, zero, suc, ◌<◌, ◌-◌, List, [], ◌∷◌, ◌++◌, ◌+◌, Some, length, length-append, map, drop, get_or, subst, sym, ap, ◌∙◌, arith}
use Rattle.std.proofs.lemmas.Option.{get_or_from_slice_get, slice_get-get_or, slice_get-map, slice_get_within}
use Rattle.std.proofs.lemmas.List.{drop_all, drop_more, get_or_append_left, map-append}
use mathlib.Core.List.{IsPrefix}
use Rattle.zp_model.specs.declared.counts.Counts.{Counts}
use Rattle.std.specs.Option.{option_map}
use Rattle.zp_board.specs.Boards.{entry_at, last_of}
use Rattle.zp_counts.specs.declared.reading.Reading.{Reading}
use Rattle.zp_counts.specs.CountBoards.{IsReadingOf}

-- where entries begin with others, so do the counts that they stand for
pub prefix_counts : (f : List ℕ → Counts) (old new : List (List ℕ)) {before after : List Counts} → before ≡ map f old → after ≡ map f new → IsPrefix old new → IsPrefix before after
prefix_counts f old new is_before is_after p = rw (is_before, is_after) (map f p.0, sym (map-append f old p.0) ∙ ap (map f) p.1)

-- one entry more stands for its counts
pub counts_more : (f : List ℕ → Counts) (es all : List (List ℕ)) (e : List ℕ) {before after : List Counts} {c : Counts} → before ≡ map f es → after ≡ map f all → all ≡ es ++ e ∷ [] → f e ≡ c
    → after ≡ before ++ c ∷ []
counts_more f es all e is_before is_after is same = is_after ∙ ap (map f) is ∙ map-append f es (e ∷ []) ∙ (λ j. sym is_before j ++ same j ∷ [])

-- the last of some entries, read as counts, is a reading of theirs
pub reading_last : (f : List ℕ → Counts) (es : List (List ℕ)) {cs : List Counts} (ws : List ℕ) (r : Reading) → cs ≡ map f es → r.place + 1 ≡ length es → ws ≡ last_of es → r.counts ≡ f ws
    → IsReadingOf cs r
reading_last f es ws r is place words counts =
    let at : r.place ≡ length es - 1 = omega arith in
    rw is (slice_get-map f es r.place
    ∙ ap (option_map f) (slice_get-get_or es r.place [] (omega arith) ∙ ap (λ n. Some (entry_at es n)) at ∙ ap Some (sym words))
    ∙ ap Some (sym counts))

-- a reading of some counts is one of those that begin with them
pub reading_kept : (xs ys : List Counts) (r : Reading) → IsPrefix xs ys → IsReadingOf xs r → IsReadingOf ys r
reading_kept xs ys r p taken =
    let lt : r.place < length xs = slice_get_within xs r.place r.counts taken in
    let here : get_or (xs ++ p.0) r.place r.counts ≡ r.counts = get_or_append_left xs p.0 r.counts r.place lt ∙ get_or_from_slice_get xs r.place r.counts r.counts taken in
    subst (λ l. IsReadingOf l r) p.1
    (slice_get-get_or (xs ++ p.0) r.place r.counts (omega (arith, lt, length-append xs p.0)) ∙ ap Some here)

-- the elements of a list from a place on, one by one
abbrev pub elements : List ℕ → ℕ → ℕ → List ℕ
elements ns k zero = []
elements ns k (suc m) = get_or ns k 0 ∷ elements ns (k + 1) m

pub each_element : (ns : List ℕ) (k m : ℕ) → k + m ≡ length ns → drop k ns ≡ elements ns k m
each_element ns k zero e = drop_all k ns (omega (arith, e))
each_element ns k (suc m) e = drop_more ns k 0 (omega (arith, e)) ∙ ap (λ l. get_or ns k 0 ∷ l) (each_element ns (k + 1) m (omega (arith, e)))
