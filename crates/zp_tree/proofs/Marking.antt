-- The words of a zone after one of them was changed.
use Rattle.std.proofs.Common.{ℕ, ◌-◌, ◌*◌, ◌/◌, ◌%◌, ◌≡◌, ◌≤◌, ◌<◌, inl, inr, refl, sym, ◌∙◌, ap, arith, List, length, slice_index, slice_set}
use Rattle.std.specs.Int.{bit_at}
use Rattle.std.proofs.lemmas.Bool.{cases_lt, cases_eq}
use Rattle.std.proofs.lemmas.List.{get_or-set_same, get_or-set_other, length-set}
use Rattle.zp_tree.specs.declared.constants.TheConstants.{PLACES, WORD_LEVELS, GROUP_PAGES}
use Rattle.zp_tree.specs.Words.{node, IsMarked}
use Rattle.zp_tree.specs.Marks.{mark, IsWords, IsInGroups, IsRemarked}
use Rattle.zp_tree.proofs.Rows.{all_places}
use Rattle.zp_tree.proofs.Places.{low_mark, high_mark, low_place, high_place}

-- what a changed low word leaves: the blocks of the other words, and of this one those whose bits it keeps
pub low_others : (ls hs : List ℕ) (r w i j : ℕ) → r < length ls → IsInGroups hs i j → (j < WORD_LEVELS → i / PLACES ≡ r → bit_at w (node (i % PLACES) j) ≡ bit_at (slice_index ls r) (node (i % PLACES) j)) →
    mark (slice_set ls r w) hs i j ≡ mark ls hs i j
low_others ls hs r w i j room y same = elim (cases_lt j WORD_LEVELS) [
  | inl lt ↦ low_mark (slice_set ls r w) hs i j lt ∙ here lt ∙ sym (low_mark ls hs i j lt)
  | inr ge ↦ high_mark (slice_set ls r w) hs i j ge ∙ sym (high_mark ls hs i j ge)
]
  where
    here : j < WORD_LEVELS → bit_at (slice_index (slice_set ls r w) (i / PLACES)) (node (i % PLACES) j) ≡ bit_at (slice_index ls (i / PLACES)) (node (i % PLACES) j)
    here lt = elim (cases_eq (i / PLACES) r) [
      | inl e ↦
          let n = node (i % PLACES) j in
          ap (λ q. bit_at (slice_index (slice_set ls r w) q) n) e ∙ ap (λ v. bit_at v n) (get_or-set_same ls r w 0 room) ∙ same lt e ∙ ap (λ q. bit_at (slice_index ls q) n) (sym e)
      | inr ne ↦ ap (λ v. bit_at v (node (i % PLACES) j)) (get_or-set_other ls r (i / PLACES) w 0 ne)
    ]

pub low_here : (ls hs : List ℕ) (r w i j : ℕ) → r < length ls → j < WORD_LEVELS → i / PLACES ≡ r → mark (slice_set ls r w) hs i j ≡ bit_at w (node (i % PLACES) j)
low_here ls hs r w i j room lt e =
    let n = node (i % PLACES) j in
    low_mark (slice_set ls r w) hs i j lt ∙ ap (λ q. bit_at (slice_index (slice_set ls r w) q) n) e ∙ ap (λ v. bit_at v n) (get_or-set_same ls r w 0 room)

pub low_words : (ls hs : List ℕ) (r w : ℕ) → IsWords ls hs → r < length ls → bit_at w 1 ≡ 0 → IsWords (slice_set ls r w) hs
low_words ls hs r w x room none = record {
  size = length-set ls r w ∙ x.size;
  whole = λ q lt. elim (cases_eq q r) [
    | inl e ↦ ap (λ p. bit_at (slice_index (slice_set ls r w) p) 1) e ∙ ap (λ v. bit_at v 1) (get_or-set_same ls r w 0 room) ∙ none
    | inr ne ↦ ap (λ v. bit_at v 1) (get_or-set_other ls r q w 0 ne) ∙ x.whole q (omega (arith, lt, length-set ls r w))
  ];
}

-- the same of a high word
pub high_others : (ls hs : List ℕ) (g w i j : ℕ) → g < length hs → IsInGroups hs i j → (WORD_LEVELS ≤ j → i / GROUP_PAGES ≡ g → bit_at w (node (i / PLACES % PLACES) (j - WORD_LEVELS)) ≡ bit_at (slice_index hs g) (node (i / PLACES % PLACES) (j - WORD_LEVELS))) →
    mark ls (slice_set hs g w) i j ≡ mark ls hs i j
high_others ls hs g w i j room y same = elim (cases_lt j WORD_LEVELS) [
  | inl lt ↦ low_mark ls (slice_set hs g w) i j lt ∙ sym (low_mark ls hs i j lt)
  | inr ge ↦ high_mark ls (slice_set hs g w) i j ge ∙ here ge ∙ sym (high_mark ls hs i j ge)
]
  where
    here : WORD_LEVELS ≤ j → bit_at (slice_index (slice_set hs g w) (i / GROUP_PAGES)) (node (i / PLACES % PLACES) (j - WORD_LEVELS)) ≡ bit_at (slice_index hs (i / GROUP_PAGES)) (node (i / PLACES % PLACES) (j - WORD_LEVELS))
    here ge = elim (cases_eq (i / GROUP_PAGES) g) [
      | inl e ↦
          let n = node (i / PLACES % PLACES) (j - WORD_LEVELS) in
          ap (λ q. bit_at (slice_index (slice_set hs g w) q) n) e ∙ ap (λ v. bit_at v n) (get_or-set_same hs g w 0 room) ∙ same ge e ∙ ap (λ q. bit_at (slice_index hs q) n) (sym e)
      | inr ne ↦ ap (λ v. bit_at v (node (i / PLACES % PLACES) (j - WORD_LEVELS))) (get_or-set_other hs g (i / GROUP_PAGES) w 0 ne)
    ]

pub high_here : (ls hs : List ℕ) (g w i j : ℕ) → g < length hs → WORD_LEVELS ≤ j → i / GROUP_PAGES ≡ g → mark ls (slice_set hs g w) i j ≡ bit_at w (node (i / PLACES % PLACES) (j - WORD_LEVELS))
high_here ls hs g w i j room ge e =
    let n = node (i / PLACES % PLACES) (j - WORD_LEVELS) in
    high_mark ls (slice_set hs g w) i j ge ∙ ap (λ q. bit_at (slice_index (slice_set hs g w) q) n) e ∙ ap (λ v. bit_at v n) (get_or-set_same hs g w 0 room)

pub high_words : (ls hs : List ℕ) (g w : ℕ) → IsWords ls hs → IsWords ls (slice_set hs g w)
high_words ls hs g w x = record { size = x.size ∙ ap (λ n. PLACES * n) (sym (length-set hs g w)); whole = x.whole }

-- one block's bit changed
pub low_marked : (ls hs : List ℕ) (w p k b : ℕ) → IsWords ls hs → IsInGroups hs p k → k < WORD_LEVELS → IsMarked (slice_index ls (p / PLACES)) w (p % PLACES) k b → IsRemarked ls hs (slice_set ls (p / PLACES) w) hs p k b
low_marked ls hs w p k b x y lt m =
    let at = low_place hs p k y lt in
    let room : p / PLACES < length ls = omega (arith, at.word, x.size) in
    record {
      words = low_words ls hs (p / PLACES) w x room (m.others 0 WORD_LEVELS all_places (λ _ e. omega (arith, e)) ∙ x.whole (p / PLACES) room);
      size = refl;
      here = low_here ls hs (p / PLACES) w p k room lt refl ∙ m.here;
      others = λ i j z ne. low_others ls hs (p / PLACES) w i j room z (λ lj e. m.others (i % PLACES) j (low_place hs i j z lj).place (λ f g. ne (omega (arith, e, f)) g));
    }

pub high_marked : (ls hs : List ℕ) (w p k b : ℕ) → IsWords ls hs → IsInGroups hs p k → WORD_LEVELS ≤ k → IsMarked (slice_index hs (p / GROUP_PAGES)) w (p / PLACES % PLACES) (k - WORD_LEVELS) b →
    IsRemarked ls hs ls (slice_set hs (p / GROUP_PAGES) w) p k b
high_marked ls hs w p k b x y le m =
    let at = high_place hs p k y le in
    record {
      words = high_words ls hs (p / GROUP_PAGES) w x;
      size = length-set hs (p / GROUP_PAGES) w;
      here = high_here ls hs (p / GROUP_PAGES) w p k at.word le refl ∙ m.here;
      others = λ i j z ne. high_others ls hs (p / GROUP_PAGES) w i j at.word z (λ lj e.
          let to = high_place hs i j z lj in
          m.others (i / PLACES % PLACES) (j - WORD_LEVELS) to.place (λ f g. ne (omega (arith, e, f, to.whole, at.whole)) (omega (arith, g))));
    }
