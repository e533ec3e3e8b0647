-- The blocks of a group by its words.
use Rattle.std.proofs.Common.{ℕ, ◌+◌, ◌-◌, ◌*◌, ◌/◌, ◌%◌, ◌^◌, ◌≡◌, ◌≤◌, ◌<◌, ◌↔◌, inl, inr, refl, sym, ◌∙◌, ap, arith, IsTrue, List, length, slice_index, Option, Some, None}
use Rattle.std.specs.Option.{is_some}
use Rattle.std.specs.Int.{bit_at}
use Rattle.std.proofs.lemmas.Bool.{cases_lt, false≢true}
use Rattle.std.proofs.lemmas.Nat.{mod-pow-add}
use Rattle.zp_tree.specs.declared.constants.TheConstants.{PLACES, WORD_LEVELS, GROUP_PAGES}
use Rattle.zp_tree.specs.Words.{node, IsPlace, Has, IsLargestIn, IsUnion}
use Rattle.zp_tree.specs.Marks.{IsLowAlone, IsWords, HasMark, HasLow, HasHigh, HasLarge, IsRankOf}
use Rattle.zp_tree.proofs.Nodes.{place_room}
use Rattle.zp_tree.proofs.Places.{low_mark, high_mark, low_place, high_place, mod_pow}
use Rattle.zp_tree.proofs.SplitMarks.{words_of}

-- a block of one word is in the words of its kind
pub high_of : (hs : List ℕ) (g q l i k : ℕ) → g < length hs → Has (slice_index hs g) q l → i ≡ GROUP_PAGES * g + PLACES * q → k ≡ l + WORD_LEVELS → HasHigh hs i k × (i / GROUP_PAGES ≡ g)
high_of hs g q l i k room h e f =
    let y = h.place in
    let back : k - WORD_LEVELS ≡ l = omega arith in
    let w = words_of k (omega arith) in
    let b : 2 ^ (k - WORD_LEVELS) ≡ 2 ^ l = ap (λ n. 2 ^ n) back in
    let word : i / GROUP_PAGES ≡ g = omega (arith, e, y.inside) in
    let place : i / PLACES % PLACES ≡ q = omega (arith, e, y.inside) in
    let kl : l + WORD_LEVELS ≡ k = omega arith in
    let low : i / PLACES % PLACES % 2 ^ l ≡ i / PLACES % 2 ^ l = mod_pow (i / PLACES) l WORD_LEVELS y.level in
    let al : i / PLACES % 2 ^ l ≡ 0 = sym low ∙ ap (λ n. n % 2 ^ l) place ∙ y.aligned in (
      record {
        order = omega arith;
        inside = record {
          order = omega (arith, y.level);
          aligned = ap (λ n. i % 2 ^ n) (sym kl) ∙ omega (arith, mod-pow-add i l WORD_LEVELS, al, e);
          inside = omega (arith, e, w, b, place_room q l y, room);
        };
        bit = ap (λ n. bit_at (slice_index hs n) (node (i / PLACES % PLACES) (k - WORD_LEVELS))) word ∙ ap (λ n. bit_at (slice_index hs g) (node n (k - WORD_LEVELS))) place ∙ ap (λ n. bit_at (slice_index hs g) (node q n)) back ∙ h.bit;
      },
      word,
    )

pub low_of : (ls : List ℕ) (r q k i : ℕ) → r < length ls → k < WORD_LEVELS → Has (slice_index ls r) q k → i ≡ PLACES * r + q → HasLow ls i k × (i / PLACES ≡ r)
low_of ls r q k i room lt h e =
    let y = h.place in
    let word : i / PLACES ≡ r = omega (arith, e, y.inside) in
    let place : i % PLACES ≡ q = omega (arith, e, y.inside) in (
      record {
        order = lt;
        aligned = sym (mod_pow i k WORD_LEVELS (omega arith)) ∙ ap (λ n. n % 2 ^ k) place ∙ y.aligned;
        inside = omega (arith, word, room);
        bit = ap (λ n. bit_at (slice_index ls n) (node (i % PLACES) k)) word ∙ ap (λ n. bit_at (slice_index ls r) (node n k)) place ∙ h.bit;
      },
      word,
    )

-- of either kind of word it is in the words
pub mark_high : (ls hs : List ℕ) (i k : ℕ) → HasHigh hs i k → HasMark ls hs i k
mark_high ls hs i k h = record { inside = h.inside; bit = high_mark ls hs i k h.order ∙ h.bit }

pub mark_low : (ls hs : List ℕ) (i k : ℕ) → IsWords ls hs → HasLow ls i k → HasMark ls hs i k
mark_low ls hs i k x h =
    let y : IsPlace (i % PLACES) k = record { level = omega (arith, h.order); aligned = mod_pow i k WORD_LEVELS (omega (arith, h.order)) ∙ h.aligned; inside = omega arith } in
    record {
      inside = record { order = omega (arith, h.order); aligned = h.aligned; inside = omega (arith, place_room (i % PLACES) k y, h.inside, x.size) };
      bit = low_mark ls hs i k h.order ∙ h.bit;
    }

pub is_high : (ls hs : List ℕ) (i k : ℕ) → HasMark ls hs i k → WORD_LEVELS ≤ k → HasHigh hs i k
is_high ls hs i k x le = record { order = le; inside = x.inside; bit = sym (high_mark ls hs i k le) ∙ x.bit }

pub is_low : (ls hs : List ℕ) (i k : ℕ) → IsWords ls hs → HasMark ls hs i k → k < WORD_LEVELS → HasLow ls i k
is_low ls hs i k w x lt = record { order = lt; aligned = x.inside.aligned; inside = omega (arith, (low_place hs i k x.inside lt).word, w.size); bit = sym (low_mark ls hs i k lt) ∙ x.bit }

-- the blocks of one word
pub high_has : (hs : List ℕ) (i k : ℕ) → HasHigh hs i k → Has (slice_index hs (i / GROUP_PAGES)) (i / PLACES % PLACES) (k - WORD_LEVELS)
high_has hs i k h = record { place = (high_place hs i k h.inside h.order).place; bit = h.bit }

pub low_has : (ls : List ℕ) (i k : ℕ) → HasLow ls i k → Has (slice_index ls (i / PLACES)) (i % PLACES) k
low_has ls i k h = record { place = record { level = omega (arith, h.order); aligned = mod_pow i k WORD_LEVELS (omega (arith, h.order)) ∙ h.aligned; inside = omega arith }; bit = h.bit }

-- the rank of a group by its high word, where that has a block, and else by its low ones
pub rank_of_high : (ls hs : List ℕ) (g j r : ℕ) → IsWords ls hs → g < length hs → IsLargestIn (slice_index hs g) 0 WORD_LEVELS (Some j) → r ≡ j + WORD_LEVELS + 1 → IsRankOf ls hs g r
rank_of_high ls hs g j r x room m e = record {
  most = λ i k h at. elim (cases_lt k WORD_LEVELS) [
    | inl low ↦ omega arith
    | inr high ↦
        let y = high_has hs i k (is_high ls hs i k h high) in
        let z : Has (slice_index hs g) (i / PLACES % PLACES) (k - WORD_LEVELS) = rw (← at) y in
        omega (arith, m.1 (i / PLACES % PLACES) (k - WORD_LEVELS) z (omega arith) (omega (arith, place_room _ _ y.place)))
  ];
  some = λ k same.
      let b = m.0 in
      let i = GROUP_PAGES * g + PLACES * b.0 in
      let h = high_of hs g b.0 j i k room b.1 refl (omega arith) in
      (i, mark_high ls hs i k h.0, h.1);
}

-- the blocks of a low word are smaller than it
pub level_low : (ls : List ℕ) (r q k : ℕ) → IsLowAlone ls → r < length ls → Has (slice_index ls r) q k → k < WORD_LEVELS
level_low ls r q k alone room h = elim (cases_lt k WORD_LEVELS) [
  | inl lt ↦ lt
  | inr ge ↦
      let top : k ≡ WORD_LEVELS = omega (arith, h.place.level) in
      let first : q ≡ 0 = omega (arith, place_room q k h.place, ap (λ l. 2 ^ l) top) in
      let root : node q k ≡ 1 = ap (λ l. node q l) top ∙ ap (λ p. node p WORD_LEVELS) first in
      absurd (omega (arith, alone r room, h.bit, ap (bit_at (slice_index ls r)) root))
]

-- one of some words with the union's bit
pub in_union : (ls hs : List ℕ) (a n v q k : ℕ) → IsWords ls hs → a + n ≤ length ls → IsUnion ls a n v → Has v q k → (r : ℕ) × (a ≤ r) × (r < a + n) × Has (slice_index ls r) q k × (k < WORD_LEVELS)
in_union ls hs a n v q k x room u h =
    let o = u.only (node q k) h.bit in
    let y : Has (slice_index ls o.0) q k = record { place = h.place; bit = o.3 } in
    (o.0, o.1, o.2, y, level_low ls o.0 q k x.whole (omega (arith, o.2)) y)

pub of_union : (ls : List ℕ) (a n v r q k : ℕ) → IsUnion ls a n v → a ≤ r → r < a + n → Has (slice_index ls r) q k → Has v q k
of_union ls a n v r q k u lo hi h = record { place = h.place; bit = u.each r (node q k) lo hi h.bit }

none_high : (ls hs : List ℕ) (g i k : ℕ) → IsLargestIn (slice_index hs g) 0 WORD_LEVELS None → HasMark ls hs i k → i / GROUP_PAGES ≡ g → k < WORD_LEVELS
none_high ls hs g i k none h at = elim (cases_lt k WORD_LEVELS) [
  | inl lt ↦ lt
  | inr high ↦
      let y = high_has hs i k (is_high ls hs i k h high) in
      let z : Has (slice_index hs g) (i / PLACES % PLACES) (k - WORD_LEVELS) = rw (← at) y in
      absurd (none (i / PLACES % PLACES) (k - WORD_LEVELS) z (omega arith) (omega (arith, place_room _ _ y.place)))
]

-- whether a block stands in the high word, by its largest level
pub none_large : (hs : List ℕ) (g : ℕ) → IsLargestIn (slice_index hs g) 0 WORD_LEVELS None → HasLarge hs g → ⊥
none_large hs g none l =
    let y = high_has hs l.0 l.1 l.2 in
    let z : Has (slice_index hs g) (l.0 / PLACES % PLACES) (l.1 - WORD_LEVELS) = rw (← l.3) y in
    none (l.0 / PLACES % PLACES) (l.1 - WORD_LEVELS) z (omega arith) (omega (arith, place_room _ _ y.place))

pub some_large : (hs : List ℕ) (g j : ℕ) → g < length hs → IsLargestIn (slice_index hs g) 0 WORD_LEVELS (Some j) → HasLarge hs g
some_large hs g j room m =
    let b = m.0 in
    let i = GROUP_PAGES * g + PLACES * b.0 in
    let h = high_of hs g b.0 j i (j + WORD_LEVELS) room b.1 refl refl in
    (i, j + WORD_LEVELS, h.0, h.1)

pub large_told : (hs : List ℕ) (g : ℕ) (q : Option ℕ) → g < length hs → IsLargestIn (slice_index hs g) 0 WORD_LEVELS q → IsTrue (is_some q) ↔ HasLarge hs g
large_told hs g None room m = (λ e. absurd (false≢true e), λ l. absurd (none_large hs g m l))
large_told hs g (Some j) room m = (λ _. some_large hs g j room m, λ _. refl)

-- a small block of the group is in the union of its low words
small_in : (ls hs : List ℕ) (g v i k : ℕ) → IsWords ls hs → IsUnion ls (PLACES * g) PLACES v → HasMark ls hs i k → i / GROUP_PAGES ≡ g → k < WORD_LEVELS → Has v (i % PLACES) k
small_in ls hs g v i k x u h at lt = of_union ls (PLACES * g) PLACES v (i / PLACES) (i % PLACES) k u (omega (arith, at)) (omega (arith, at)) (low_has ls i k (is_low ls hs i k x h lt))

pub rank_of_low : (ls hs : List ℕ) (g v j r : ℕ) → IsWords ls hs → g < length hs → IsLargestIn (slice_index hs g) 0 WORD_LEVELS None → IsUnion ls (PLACES * g) PLACES v → IsLargestIn v 0 WORD_LEVELS (Some j) → r ≡ j + 1 →
    IsRankOf ls hs g r
rank_of_low ls hs g v j r x room none u m e = record {
  most = λ i k h at.
      let y = small_in ls hs g v i k x u h at (none_high ls hs g i k none h at) in
      omega (arith, m.1 (i % PLACES) k y (omega arith) (omega (arith, place_room _ _ y.place)), e);
  some = λ k same.
      let b = m.0 in
      let o = in_union ls hs (PLACES * g) PLACES v b.0 j x (omega (arith, room, x.size)) u b.1 in
      let is : j ≡ k = omega arith in
      let i = PLACES * o.0 + b.0 in
      let h = low_of ls o.0 b.0 j i (omega (arith, o.2, room, x.size)) o.4 o.3 refl in
      (i, rw (← is) (mark_low ls hs i j x h.0), omega (arith, h.1, o.1, o.2));
}

pub rank_of_none : (ls hs : List ℕ) (g v r : ℕ) → IsWords ls hs → g < length hs → IsLargestIn (slice_index hs g) 0 WORD_LEVELS None → IsUnion ls (PLACES * g) PLACES v → IsLargestIn v 0 WORD_LEVELS None → r ≡ 0 → IsRankOf ls hs g r
rank_of_none ls hs g v r x room none u m e = record {
  most = λ i k h at.
      let y = small_in ls hs g v i k x u h at (none_high ls hs g i k none h at) in
      absurd (m (i % PLACES) k y (omega arith) (omega (arith, place_room _ _ y.place)));
  some = λ k same. absurd (omega arith);
}
