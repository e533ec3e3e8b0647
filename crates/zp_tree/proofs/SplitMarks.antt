-- The words of a zone after a block was split.
use Rattle.std.proofs.Common.{ℕ, ◌+◌, ◌-◌, ◌*◌, ◌/◌, ◌%◌, ◌^◌, ◌≡◌, ◌≤◌, ◌<◌, inl, inr, refl, sym, ◌∙◌, ap, arith, List, length, slice_index, slice_set}
use Rattle.std.specs.Int.{bit_at}
use Rattle.std.proofs.lemmas.Bool.{cases_lt}
use Rattle.std.proofs.lemmas.List.{length-set}
use Rattle.std.proofs.lemmas.Nat.{pow_below, pow-add}
use Rattle.std.proofs.Math.Nat.{add-mod_right}
use Rattle.std.proofs.Math.Pow.{pow_mono}
use Rattle.zp_model.proofs.Heads.{aligned_down, two}
use Rattle.zp_tree.specs.declared.constants.TheConstants.{PLACES, WORD_LEVELS, GROUP_PAGES}
use Rattle.zp_tree.specs.Words.{node, IsMarked, IsHalved}
use Rattle.zp_tree.specs.Marks.{IsWords, IsInGroups, IsSplitUp}
use Rattle.zp_tree.proofs.Nodes.{place_room}
use Rattle.zp_tree.proofs.Rows.{all_places}
use Rattle.zp_tree.proofs.Places.{low_place, high_place}
use Rattle.zp_tree.proofs.Marking.{low_others, low_here, low_words, high_others, high_here, high_words}

-- within a low word
pub low_split : (ls hs : List ℕ) (v w p f t : ℕ) → IsWords ls hs → IsInGroups hs p f → f < WORD_LEVELS → IsMarked (slice_index ls (p / PLACES)) v (p % PLACES) f 0 → IsHalved v w (p % PLACES) f t →
    IsSplitUp ls hs (slice_set ls (p / PLACES) w) hs p f t
low_split ls hs v w p f t x y lt m h =
    let r = p / PLACES in
    let q = p % PLACES in
    let at = low_place hs p f y lt in
    let room : r < length ls = omega (arith, at.word, x.size) in
    let fits = place_room q f at.place in
    record {
      words = low_words ls hs r w x room (h.others 0 WORD_LEVELS all_places (λ _ _ more. omega (arith, more)) ∙ m.others 0 WORD_LEVELS all_places (λ _ e. omega (arith, e)) ∙ x.whole r room);
      size = refl;
      here = low_here ls hs r w p f room lt refl ∙ h.others q f at.place (λ _ _ more. omega (arith, more)) ∙ m.here;
      halves = λ j from to.
          let small = pow_below j f to in
          let place : (p + 2 ^ j) % PLACES ≡ q + 2 ^ j = omega (arith, small, fits) in
          low_here ls hs r w (p + 2 ^ j) j room (omega arith) (omega (arith, small, fits)) ∙ ap (λ n. bit_at w (node n j)) place ∙ h.halves j from to;
      others = λ i j z not_it not_half. low_others ls hs r w i j room z (λ lj e.
          let to = (low_place hs i j z lj).place in
          h.others (i % PLACES) j to (λ a lo hi. not_half (omega (arith, a, e)) lo hi) ∙ m.others (i % PLACES) j to (λ a b. not_it (omega (arith, a, e)) b));
    }

-- a half of a high word is so many low words
pub words_of : (j : ℕ) → WORD_LEVELS ≤ j → 2 ^ j ≡ 2 ^ (j - WORD_LEVELS) * PLACES
words_of j le = let e : (j - WORD_LEVELS) + WORD_LEVELS ≡ j = omega arith in ap (λ n. 2 ^ n) (sym e) ∙ pow-add 2 (j - WORD_LEVELS) WORD_LEVELS

-- a high half of a block lies in the groups
pub half_in : (hs : List ℕ) (p f j : ℕ) → IsInGroups hs p f → j < f → IsInGroups hs (p + 2 ^ j) j
half_in hs p f j y lt =
    let low : p % 2 ^ j ≡ 0 = aligned_down j f p (omega arith) y.aligned in
    let room : 2 ^ (j + 1) ≤ 2 ^ f = pow_mono {i = j + 1} {j = f} (omega arith) in
    record { order = omega (arith, y.order); aligned = add-mod_right p (2 ^ j) ∙ low; inside = omega (arith, y.inside, room, two j) }

-- within a high word
pub high_split : (ls hs : List ℕ) (v w p f t : ℕ) → IsWords ls hs → IsInGroups hs p f → WORD_LEVELS ≤ t → t ≤ f → IsMarked (slice_index hs (p / GROUP_PAGES)) v (p / PLACES % PLACES) (f - WORD_LEVELS) 0 →
    IsHalved v w (p / PLACES % PLACES) (f - WORD_LEVELS) (t - WORD_LEVELS) → IsSplitUp ls hs ls (slice_set hs (p / GROUP_PAGES) w) p f t
high_split ls hs v w p f t x y least le m h =
    let g = p / GROUP_PAGES in
    let q = p / PLACES % PLACES in
    let at = high_place hs p f y (omega arith) in
    let fits = place_room q (f - WORD_LEVELS) at.place in
    record {
      words = high_words ls hs g w x;
      size = length-set hs g w;
      here = high_here ls hs g w p f at.word (omega arith) refl ∙ h.others q (f - WORD_LEVELS) at.place (λ _ _ more. omega (arith, more)) ∙ m.here;
      halves = λ j from to.
          let l = j - WORD_LEVELS in
          let small = pow_below l (f - WORD_LEVELS) (omega arith) in
          let half = words_of j (omega arith) in
          let place : (p + 2 ^ j) / PLACES % PLACES ≡ q + 2 ^ l = omega (arith, half, small, fits) in
          high_here ls hs g w (p + 2 ^ j) j at.word (omega arith) (omega (arith, half, small, fits)) ∙ ap (λ n. bit_at w (node n l)) place ∙ h.halves l (omega arith) (omega arith);
      others = λ i j z not_it not_half. high_others ls hs g w i j at.word z (λ lj e.
          let to = high_place hs i j z lj in
          h.others (i / PLACES % PLACES) (j - WORD_LEVELS) to.place (λ a lo hi. not_half (omega (arith, a, e, words_of j lj, at.whole, to.whole)) (omega arith) (omega arith))
          ∙ m.others (i / PLACES % PLACES) (j - WORD_LEVELS) to.place (λ a b. not_it (omega (arith, a, e, to.whole, at.whole)) (omega (arith, b))));
    }

-- and on from a high word into the low one of its first places
pub split_on : (ls hs ms gs : List ℕ) (w p f t : ℕ) → WORD_LEVELS ≤ f → t < WORD_LEVELS → IsInGroups hs p f → IsSplitUp ls hs ms gs p f WORD_LEVELS → IsHalved (slice_index ms (p / PLACES)) w 0 WORD_LEVELS t →
    IsSplitUp ls hs (slice_set ms (p / PLACES) w) gs p f t
split_on ls hs ms gs w p f t le lt y s h =
    let r = p / PLACES in
    let at = high_place hs p f y le in
    let in_gs : (i j : ℕ) → IsInGroups hs i j → IsInGroups gs i j = λ i j z. rw s.size z in
    let room : r < length ms = omega (arith, at.word, s.words.size, s.size) in
    record {
      words = low_words ms gs r w s.words room (h.others 0 WORD_LEVELS all_places (λ _ _ more. omega (arith, more)) ∙ s.words.whole r room);
      size = s.size;
      here = low_others ms gs r w p f room (in_gs p f y) (λ more. absurd (omega arith)) ∙ s.here;
      halves = λ j from to. elim (cases_lt j WORD_LEVELS) [
        | inl low ↦
            let small = pow_below j WORD_LEVELS low in
            let place : (p + 2 ^ j) % PLACES ≡ 0 + 2 ^ j = omega (arith, small, at.whole) in
            low_here ms gs r w (p + 2 ^ j) j room low (omega (arith, small, at.whole)) ∙ ap (λ n. bit_at w (node n j)) place ∙ h.halves j from low
        | inr high ↦ low_others ms gs r w (p + 2 ^ j) j room (in_gs (p + 2 ^ j) j (half_in hs p f j y to)) (λ more. absurd (omega arith)) ∙ s.halves j high to
      ];
      others = λ i j z not_it not_half.
          low_others ms gs r w i j room (in_gs i j z) (λ lj e. h.others (i % PLACES) j (low_place hs i j z lj).place (λ a lo hi. not_half (omega (arith, a, e, at.whole)) lo (omega arith)))
          ∙ s.others i j z not_it (λ a lo hi. not_half a (omega arith) hi);
    }
