-- The words of a zone after a block was split towards a page.
use Rattle.std.proofs.Common.{ℕ, ◌+◌, ◌-◌, ◌/◌, ◌%◌, ◌≡◌, ◌≤◌, ◌<◌, inl, inr, refl, sym, ◌∙◌, ap, arith, List, length, slice_index, slice_set}
use Rattle.std.specs.Int.{bit_at}
use Rattle.std.proofs.lemmas.Bool.{cases_lt}
use Rattle.std.proofs.lemmas.List.{length-set}
use Rattle.zp_model.specs.Block.{head}
use Rattle.zp_tree.specs.declared.constants.TheConstants.{PLACES, WORD_LEVELS, GROUP_PAGES}
use Rattle.zp_tree.specs.Blocks.{buddy}
use Rattle.zp_tree.specs.Words.{node, IsMarked, IsPaired}
use Rattle.zp_tree.specs.Marks.{mark, IsWords, IsInGroups, IsSplitTowards}
use Rattle.zp_tree.proofs.Rows.{all_places}
use Rattle.zp_tree.proofs.Places as Places
use Rattle.zp_tree.proofs.Places.{low_place, high_mark}
use Rattle.zp_tree.proofs.Marking.{low_others, low_here, low_words, high_others, high_here, high_words}
use Rattle.zp_tree.proofs.BuddyPlaces.{buddy_low, buddy_high, buddy_whole, head_around}

-- within a low word
pub low_towards : (ls hs : List ℕ) (v w p f t : ℕ) → IsWords ls hs → IsInGroups hs (head p f) f → f < WORD_LEVELS → IsMarked (slice_index ls (p / PLACES)) v (head p f % PLACES) f 0 → IsPaired v w (p % PLACES) t f →
    IsSplitTowards ls hs (slice_set ls (p / PLACES) w) hs p f t
low_towards ls hs v w p f t x y lt m a =
    let r = p / PLACES in
    let at = low_place hs (head p f) f y lt in
    let word : head p f / PLACES ≡ r = head_around p f WORD_LEVELS (omega arith) in
    let room : r < length ls = omega (arith, at.word, word, x.size) in
    record {
      words = low_words ls hs r w x room (a.others 0 WORD_LEVELS all_places (λ _ _ less. omega (arith, less)) ∙ m.others 0 WORD_LEVELS all_places (λ _ e. omega (arith, e)) ∙ x.whole r room);
      size = refl;
      here = low_here ls hs r w (head p f) f room lt word ∙ a.others (head p f % PLACES) f at.place (λ _ _ less. omega (arith, less)) ∙ m.here;
      buddies = λ j from to.
          let few : j < WORD_LEVELS = omega arith in
          let b = buddy_low p j few in
          low_here ls hs r w (buddy p j) j room few b.0 ∙ ap (λ n. bit_at w (node n j)) b.1 ∙ a.buddies j from to;
      others = λ i j z not_it not_buddy. low_others ls hs r w i j room z (λ lj e.
          let to = (low_place hs i j z lj).place in
          let b = buddy_low p j lj in
          a.others (i % PLACES) j to (λ s lo hi. not_buddy (omega (arith, e, s, b)) lo hi) ∙ m.others (i % PLACES) j to (λ s o. not_it (omega (arith, e, s, word)) o));
    }

-- within a high word
pub high_towards : (ls hs : List ℕ) (v w p f t : ℕ) → IsWords ls hs → IsInGroups hs (head p f) f → WORD_LEVELS ≤ t → t ≤ f → IsMarked (slice_index hs (p / GROUP_PAGES)) v (head p f / PLACES % PLACES) (f - WORD_LEVELS) 0 →
    IsPaired v w (p / PLACES % PLACES) (t - WORD_LEVELS) (f - WORD_LEVELS) → IsSplitTowards ls hs ls (slice_set hs (p / GROUP_PAGES) w) p f t
high_towards ls hs v w p f t x y least le m a =
    let g = p / GROUP_PAGES in
    let at = Places.high_place hs (head p f) f y (omega arith) in
    let few = y.order in
    let group : head p f / GROUP_PAGES ≡ g = head_around p f (WORD_LEVELS + WORD_LEVELS) (omega arith) in
    let room : g < length hs = omega (arith, at.word, group) in
    record {
      words = high_words ls hs g w x;
      size = length-set hs g w;
      here = high_here ls hs g w (head p f) f room (omega arith) group ∙ a.others (head p f / PLACES % PLACES) (f - WORD_LEVELS) at.place (λ _ _ less. omega (arith, less)) ∙ m.here;
      buddies = λ j from to.
          let l = j - WORD_LEVELS in
          let low : l < WORD_LEVELS = omega arith in
          let b = buddy_high p j l (omega arith) low in
          high_here ls hs g w (buddy p j) j room (omega arith) (omega (arith, b.0)) ∙ ap (λ n. bit_at w (node n l)) b.1 ∙ a.buddies l (omega arith) (omega arith);
      others = λ i j z not_it not_buddy. high_others ls hs g w i j room z (λ lj e.
          let to = Places.high_place hs i j z lj in
          let l = j - WORD_LEVELS in
          a.others (i / PLACES % PLACES) l to.place (λ s lo hi.
          let j_high : j ≡ l + WORD_LEVELS = omega arith in
          let b = buddy_high p j l j_high (omega arith) in
          not_buddy (omega (arith, e, s, b, to.whole, buddy_whole p j lj)) (omega arith) (omega arith))
          ∙ m.others (i / PLACES % PLACES) l to.place (λ s o. not_it (omega (arith, e, s, group, to.whole, at.whole)) (omega (arith, o))));
    }

-- and from a high word on into the low one around the page
pub towards_on : (ls hs gs : List ℕ) (v p f t : ℕ) → IsWords ls hs → IsInGroups hs (head p f) f → t < WORD_LEVELS → WORD_LEVELS ≤ f → IsPaired (slice_index ls (p / PLACES)) v (p % PLACES) t WORD_LEVELS → IsSplitTowards ls hs ls gs p f WORD_LEVELS →
    IsSplitTowards ls hs (slice_set ls (p / PLACES) v) gs p f t
towards_on ls hs gs v p f t x y lt le a s =
    let r = p / PLACES in
    let at = Places.high_place hs (head p f) f y le in
    let few = y.order in
    let group : head p f / GROUP_PAGES ≡ p / GROUP_PAGES = head_around p f (WORD_LEVELS + WORD_LEVELS) (omega arith) in
    let room : r < length ls = omega (arith, at.word, group, x.size) in
    let in_gs : (i j : ℕ) → IsInGroups hs i j → IsInGroups gs i j = λ i j z. rw s.size z in
    let same : (i j : ℕ) → WORD_LEVELS ≤ j → mark (slice_set ls r v) gs i j ≡ mark ls gs i j = λ i j ge. high_mark (slice_set ls r v) gs i j ge ∙ sym (high_mark ls gs i j ge) in
    record {
      words = low_words ls gs r v s.words room (a.others 0 WORD_LEVELS all_places (λ _ _ less. omega (arith, less)) ∙ x.whole r room);
      size = s.size;
      here = same (head p f) f le ∙ s.here;
      buddies = λ j from to. elim (cases_lt j WORD_LEVELS) [
        | inl low ↦
            let b = buddy_low p j low in
            low_here ls gs r v (buddy p j) j room low b.0 ∙ ap (λ n. bit_at v (node n j)) b.1 ∙ a.buddies j from low
        | inr high ↦ same (buddy p j) j high ∙ s.buddies j high to
      ];
      others = λ i j z not_it not_buddy.
          low_others ls gs r v i j room (in_gs i j z) (λ lj e.
          let b = buddy_low p j lj in a.others (i % PLACES) j (low_place hs i j z lj).place (λ o lo hi. not_buddy (omega (arith, e, o, b)) lo (omega arith)))
          ∙ s.others i j z not_it (λ o lo hi. not_buddy o (omega arith) hi);
    }
