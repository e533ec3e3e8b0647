-- The largest block in a run, by the words of a zone.
use Rattle.std.proofs.Common.{ℕ, ◌+◌, ◌-◌, ◌*◌, ◌/◌, ◌%◌, ◌^◌, ◌≡◌, ◌≤◌, ◌<◌, inl, inr, refl, subst, sym, ◌∙◌, ap, arith, List, length, slice_index, Option, Some, None}
use Rattle.std.proofs.lemmas.Bool.{cases_lt}
use Rattle.std.proofs.lemmas.Nat.{pow_pos}
use Rattle.zp_tree.specs.declared.constants.TheConstants.{PLACES, WORD_LEVELS, GROUP_PAGES}
use Rattle.zp_tree.specs.Words.{Has, IsLargestIn, IsUnion}
use Rattle.zp_tree.specs.Marks.{IsWords, IsInGroups, HasMark, IsLargestMark, order_at}
use Rattle.zp_tree.proofs.Nodes.{place_room}
use Rattle.zp_tree.proofs.Rows.{level_inside}
use Rattle.zp_tree.proofs.Places.{low_place, high_place}
use Rattle.zp_tree.proofs.SplitMarks.{words_of}
use Rattle.zp_tree.proofs.GroupBlocks.{low_of, high_of, mark_low, mark_high, is_low, is_high, low_has, high_has, in_union, of_union}

-- a block is the largest where it is in the words
same_order : (ls hs : List ℕ) (a r j k : ℕ) → k ≡ j → IsLargestMark ls hs a r (Some j) → IsLargestMark ls hs a r (Some k)
same_order ls hs a r j k e m = let P : ℕ → Type 0 = λ o. IsLargestMark ls hs a r (Some o) in subst P (sym e) m

-- a run that lies in one low word
small_inside : (ls hs : List ℕ) (a r i k : ℕ) → IsWords ls hs → IsInGroups hs a r → r < WORD_LEVELS → HasMark ls hs i k → a ≤ i → i + 2 ^ k ≤ a + 2 ^ r →
    Has (slice_index ls (a / PLACES)) (i % PLACES) k × (a % PLACES ≤ i % PLACES) × (i % PLACES + 2 ^ k ≤ a % PLACES + 2 ^ r)
small_inside ls hs a r i k x y lt h from to =
    let fits = place_room (a % PLACES) r (low_place hs a r y lt).place in
    let pos = pow_pos k in
    let word : i / PLACES ≡ a / PLACES = omega arith in
    let P : ℕ → Type 0 = λ n. Has (slice_index ls n) (i % PLACES) k in
    (subst P word (low_has ls i k (is_low ls hs i k x h (omega (arith, level_inside a r i k from to)))), omega arith, omega arith)

pub largest_small : (ls hs : List ℕ) (a r : ℕ) (q : Option ℕ) → IsWords ls hs → IsInGroups hs a r → r < WORD_LEVELS → IsLargestIn (slice_index ls (a / PLACES)) (a % PLACES) r q → IsLargestMark ls hs a r (order_at q 0)
largest_small ls hs a r None x y lt m = λ i k h from to. let s = small_inside ls hs a r i k x y lt h from to in m (i % PLACES) k s.0 s.1 s.2
largest_small ls hs a r (Some j) x y lt m =
    let b = m.0 in
    let i = PLACES * (a / PLACES) + b.0 in
    let at = low_place hs a r y lt in
    let h = low_of ls (a / PLACES) b.0 j i (omega (arith, at.word, x.size)) (omega (arith, level_inside (a % PLACES) r b.0 j b.2 b.3)) b.1 refl in
    same_order ls hs a r j (j + 0) (omega arith) ((i, mark_low ls hs i j x h.0, omega (arith, b.2), omega (arith, b.3)), λ i k h from to. let s = small_inside ls hs a r i k x y lt h from to in m.1 (i % PLACES) k s.0 s.1 s.2)

-- the larger blocks of a run of whole low words
large_inside : (ls hs : List ℕ) (a r i k : ℕ) → IsInGroups hs a r → WORD_LEVELS ≤ r → HasMark ls hs i k → WORD_LEVELS ≤ k → a ≤ i → i + 2 ^ k ≤ a + 2 ^ r →
    Has (slice_index hs (a / GROUP_PAGES)) (i / PLACES % PLACES) (k - WORD_LEVELS) × (a / PLACES % PLACES ≤ i / PLACES % PLACES) × (i / PLACES % PLACES + 2 ^ (k - WORD_LEVELS) ≤ a / PLACES % PLACES + 2 ^ (r - WORD_LEVELS))
large_inside ls hs a r i k y le h up from to =
    let at = high_place hs a r y le in
    let to_at = high_place hs i k h.inside up in
    let fits = place_room (a / PLACES % PLACES) (r - WORD_LEVELS) at.place in
    let wr = words_of r le in
    let wk = words_of k up in
    let pos = pow_pos (k - WORD_LEVELS) in
    let word : i / GROUP_PAGES ≡ a / GROUP_PAGES = omega (arith, at.whole, to_at.whole) in
    let P : ℕ → Type 0 = λ n. Has (slice_index hs n) (i / PLACES % PLACES) (k - WORD_LEVELS) in
    (subst P word (high_has hs i k (is_high ls hs i k h up)), omega (arith, at.whole, to_at.whole, word), omega (arith, at.whole, to_at.whole, word))

pub largest_large : (ls hs : List ℕ) (a r j : ℕ) → IsInGroups hs a r → WORD_LEVELS ≤ r → IsLargestIn (slice_index hs (a / GROUP_PAGES)) (a / PLACES % PLACES) (r - WORD_LEVELS) (Some j) → IsLargestMark ls hs a r (Some (j + WORD_LEVELS))
largest_large ls hs a r j y le m =
    let b = m.0 in
    let g = a / GROUP_PAGES in
    let i = GROUP_PAGES * g + PLACES * b.0 in
    let k = j + WORD_LEVELS in
    let at = high_place hs a r y le in
    let h = high_of hs g b.0 j i k at.word b.1 refl refl in
    let back : k - WORD_LEVELS ≡ j = omega arith in
    let wk : 2 ^ k ≡ 2 ^ j * PLACES = words_of k (omega arith) ∙ ap (λ n. 2 ^ n * PLACES) back in
    let wr = words_of r le in (
      (i, mark_high ls hs i k h.0, omega (arith, b.2, at.whole), omega (arith, b.3, at.whole, wk, wr)),
      λ i o z from to.
          elim (cases_lt o WORD_LEVELS) [
            | inl low ↦ omega arith
            | inr high ↦ let s = large_inside ls hs a r i o y le z high from to in omega (arith, m.1 (i / PLACES % PLACES) (o - WORD_LEVELS) s.0 s.1 s.2)
          ],
    )

-- and where it has none of these, by the union of its low words
rest_inside : (ls hs : List ℕ) (a r v i k : ℕ) → IsWords ls hs → IsInGroups hs a r → WORD_LEVELS ≤ r → IsLargestIn (slice_index hs (a / GROUP_PAGES)) (a / PLACES % PLACES) (r - WORD_LEVELS) None →
    IsUnion ls (a / PLACES) (2 ^ (r - WORD_LEVELS)) v → HasMark ls hs i k → a ≤ i → i + 2 ^ k ≤ a + 2 ^ r → Has v (i % PLACES) k
rest_inside ls hs a r v i k x y le none u h from to = elim (cases_lt k WORD_LEVELS) [
  | inl low ↦
      let pos = pow_pos k in
      let wr = words_of r le in
      let at = high_place hs a r y le in
      of_union ls (a / PLACES) (2 ^ (r - WORD_LEVELS)) v (i / PLACES) (i % PLACES) k u (omega (arith, at.whole)) (omega (arith, at.whole)) (low_has ls i k (is_low ls hs i k x h low))
  | inr high ↦ let s = large_inside ls hs a r i k y le h high from to in absurd (none (i / PLACES % PLACES) (k - WORD_LEVELS) s.0 s.1 s.2)
]

pub run_words : (ls hs : List ℕ) (a r : ℕ) → IsWords ls hs → IsInGroups hs a r → WORD_LEVELS ≤ r → a / PLACES + 2 ^ (r - WORD_LEVELS) ≤ length ls
run_words ls hs a r x y le = omega (arith, words_of r le, (high_place hs a r y le).whole, y.inside, x.size)

pub largest_rest : (ls hs : List ℕ) (a r v : ℕ) (q : Option ℕ) → IsWords ls hs → IsInGroups hs a r → WORD_LEVELS ≤ r → IsLargestIn (slice_index hs (a / GROUP_PAGES)) (a / PLACES % PLACES) (r - WORD_LEVELS) None →
    IsUnion ls (a / PLACES) (2 ^ (r - WORD_LEVELS)) v → IsLargestIn v 0 WORD_LEVELS q → IsLargestMark ls hs a r (order_at q 0)
largest_rest ls hs a r v None x y le none u m = λ i k h from to.
    let s = rest_inside ls hs a r v i k x y le none u h from to in m (i % PLACES) k s (omega arith) (omega (arith, place_room (i % PLACES) k s.place))
largest_rest ls hs a r v (Some j) x y le none u m =
    let b = m.0 in
    let o = in_union ls hs (a / PLACES) (2 ^ (r - WORD_LEVELS)) v b.0 j x (run_words ls hs a r x y le) u b.1 in
    let i = PLACES * o.0 + b.0 in
    let h = low_of ls o.0 b.0 j i (omega (arith, o.2, run_words ls hs a r x y le)) o.4 o.3 refl in
    let at = high_place hs a r y le in
    let wr = words_of r le in
    let fits = place_room b.0 j b.1.place in
    same_order ls hs a r j (j + 0) (omega arith) (
      (i, mark_low ls hs i j x h.0, omega (arith, o.1, at.whole), omega (arith, o.2, at.whole, wr, fits)),
      λ i k h from to.
          let s = rest_inside ls hs a r v i k x y le none u h from to in m.1 (i % PLACES) k s (omega arith) (omega (arith, place_room (i % PLACES) k s.place)),
    )
