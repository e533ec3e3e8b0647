-- The rows of a text, line by line.
use Rattle.std.proofs.Common.{ℕ, ◌≡◌, ◌≢◌, ◌<◌, ◌+◌, ◌-◌, List, [], ◌∷◌, ◌++◌, length, map, take, filter, get_or, slice_index_or, sym, ap, subst, ◌∙◌, arith, nat_lt, cond, true, Bool, inl, inr}
use Rattle.std.specs.Borrow.{Bor}
use Rattle.std.specs.List.{All}
use Rattle.std.proofs.lemmas.Bool.Decides.{nat_tests}
use Rattle.std.proofs.lemmas.List.{length-map, get_or-map, map-append, append-nil, nil_from_length}
use Rattle.std.proofs.lemmas.List.Elements.{filter_more, All-push}
use borrow.Author.Count.{below_more}
use Rattle.zp_buddyinfo.specs.declared.row.BuddyinfoRow.{BuddyinfoRow}
use Rattle.zp_buddyinfo.specs.Rows.{spelled, lines_of, words_of, row_words, IsRow, IsGoodLine, IsBadLine}
use Rattle.zp_buddyinfo.proofs.WordLists.{nowhere}

abbrev pub words_told : BuddyinfoRow → List (List ℕ)
words_told r = row_words r.node r.zone.now r.blocks

abbrev pub IsSound : BuddyinfoRow → Type 0
IsSound r = IsRow r.node r.zone.now r.blocks

abbrev has_words : List (List ℕ) → Bool
has_words words = nat_lt 0 (length words)

-- the rows of the first i lines, which are good
pub record RowsSoFar (lines : List (List ℕ)) (i : ℕ) (rows : List BuddyinfoRow) : Type 0 where
  pub sound : All (λ r. IsRow r.node r.zone.now r.blocks) rows
  pub written : map (λ r. row_words r.node r.zone.now r.blocks) rows ≡ filter (λ words. nat_lt 0 (length words)) (take i (map words_of lines))
  pub good : (k : ℕ) → k < i → IsGoodLine (slice_index_or lines k [])

line_more : (lines : List (List ℕ)) (i : ℕ) → i < length lines →
    filter has_words (take (i + 1) (map words_of lines)) ≡ filter has_words (take i (map words_of lines)) ++ cond (has_words (words_of (get_or lines i []))) (words_of (get_or lines i []) ∷ []) []
line_more lines i lt =
    filter_more has_words (map words_of lines) i [] (omega (arith, length-map lines words_of))
    ∙ ap (λ (w : List (List ℕ)). filter has_words (take i (map words_of lines)) ++ cond (has_words w) (w ∷ []) []) (get_or-map words_of lines i [] [] lt)

pub blank_so_far : (lines : List (List ℕ)) (i : ℕ) (rows : List BuddyinfoRow) → i < length lines → RowsSoFar lines i rows → words_of (get_or lines i []) ≡ [] → RowsSoFar lines (i + 1) rows
blank_so_far lines i rows lt so_far blank = record {
  sound = so_far.sound;
  written = so_far.written ∙ sym (line_more lines i lt ∙ ap (λ (w : List (List ℕ)). filter has_words (take i (map words_of lines)) ++ cond (has_words w) (w ∷ []) []) blank ∙ append-nil _);
  good = below_more (λ k. IsGoodLine (get_or lines k [])) i so_far.good (inl blank);
}

pub row_so_far : (lines : List (List ℕ)) (i : ℕ) (rows next : List BuddyinfoRow) (r : BuddyinfoRow) → i < length lines → RowsSoFar lines i rows → IsRow r.node r.zone.now r.blocks →
    words_of (get_or lines i []) ≡ row_words r.node r.zone.now r.blocks → next ≡ rows ++ r ∷ [] → RowsSoFar lines (i + 1) next
row_so_far lines i rows next r lt so_far sound words is =
    let told : has_words (words_told r) ≡ true = grind (arith, nat_tests) in
    record {
      sound = subst (All IsSound) (sym is) (All-push IsSound rows r so_far.sound sound);
      written = ap (map words_told) is
          ∙ map-append words_told rows (r ∷ [])
          ∙ ap (λ (ws : List (List (List ℕ))). ws ++ words_told r ∷ []) so_far.written
          ∙ sym (line_more lines i lt ∙ ap (λ (w : List (List ℕ)). filter has_words (take i (map words_of lines)) ++ cond (has_words w) (w ∷ []) []) words ∙ ap (λ (b : Bool). filter has_words (take i (map words_of lines)) ++ cond b (words_told r ∷ []) []) told);
      good = below_more (λ k. IsGoodLine (get_or lines k [])) i so_far.good (inr (r.node, r.zone.now, r.blocks, sound, words));
    }

-- a line that has words, but not those of a row
pub bad_line : (text : List ℕ) (i : ℕ) (rows : List BuddyinfoRow) → i < length (lines_of text) → RowsSoFar (lines_of text) i rows → words_of (get_or (lines_of text) i []) ≢ [] →
    ((node : ℕ) (zone blocks : List ℕ) → IsRow node zone blocks → words_of (get_or (lines_of text) i []) ≡ row_words node zone blocks → ⊥) → IsBadLine text (i + 1)
bad_line text i rows lt so_far some none = record {
  counted = omega arith;
  inside = omega arith;
  bad = λ good. elim (subst (λ k. IsGoodLine (get_or (lines_of text) k [])) back good) [
    | inl blank ↦ some blank
    | inr row ↦ none row.0 row.1 row.2 row.3 row.4
  ];
  first = λ k below. so_far.good k (omega arith);
}
  where
    back : i + 1 - 1 ≡ i
    back = omega arith

-- the words of the line at a place
pub line_words : (lines : List (Bor (List ℕ))) (words : List (Bor (List ℕ))) (i : ℕ) → i < length lines → spelled words ≡ words_of (get_or lines i nowhere).now →
    words_of (get_or (spelled lines) i []) ≡ spelled words
line_words lines words i lt is = ap words_of (get_or-map (λ (w : Bor (List ℕ)). w.now) lines i nowhere [] lt) ∙ sym is

pub no_words : (words : List (Bor (List ℕ))) → length words ≡ 0 → spelled words ≡ []
no_words words e = nil_from_length (spelled words) (omega (arith, length-map words (λ (w : Bor (List ℕ)). w.now)))
