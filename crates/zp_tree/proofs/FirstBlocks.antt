-- The first block of a group, by its high word and its low ones.
use Rattle.std.proofs.Common.{ℕ, ◌+◌, ◌-◌, ◌*◌, ◌/◌, ◌≡◌, ◌≤◌, ◌<◌, inl, inr, arith, List, Option, Some, None}
use Rattle.std.proofs.lemmas.Bool.{cases_lt}
use Rattle.zp_tree.specs.declared.constants.TheConstants.{PLACES, WORD_LEVELS, GROUP_PAGES}
use Rattle.zp_tree.specs.Marks.{IsWords, HasHigh, IsNearRank, IsRankBound, IsFirstMark, IsFirstLow, IsFirstHigh, words_before}
use Rattle.zp_tree.proofs.Places.{high_place}
use Rattle.zp_tree.proofs.GroupBlocks.{mark_high, mark_low, is_high, is_low}

-- of a large order, by the high word alone
pub first_large : (ls hs : List ℕ) (g k : ℕ) (q : Option (ℕ × ℕ)) → WORD_LEVELS ≤ k → IsFirstHigh hs g k q → IsFirstMark ls hs g k q
first_large ls hs g k None le f = λ i o h at. elim (cases_lt o WORD_LEVELS) [ inl low ↦ omega arith | inr high ↦ f i o (is_high ls hs i o h high) at ]
first_large ls hs g k (Some b) le f = (
  mark_high ls hs b.0 b.1 f.0,
  f.1,
  f.2,
  λ i o h at before.
      elim (cases_lt o WORD_LEVELS) [ inl low ↦ omega arith | inr high ↦ f.3 i o (is_high ls hs i o h high) at before ],
)

-- a large block is no earlier than the first
large_later : (hs : List ℕ) (g k : ℕ) (q : Option (ℕ × ℕ)) (n i o : ℕ) → IsFirstHigh hs g k q → n ≡ words_before q → HasHigh hs i o → i / GROUP_PAGES ≡ g → i / PLACES < PLACES * g + n → o < k
large_later hs g k None n i o f e h at before = f i o h at
large_later hs g k (Some b) n i o f e h at before = f.3 i o h at (omega (arith, e, before, f.1, at))

-- in the low words before it
pub first_small : (ls hs : List ℕ) (g k n : ℕ) (q : Option (ℕ × ℕ)) (b : ℕ × ℕ) → IsWords ls hs → IsFirstHigh hs g k q → n ≡ words_before q → n ≤ PLACES → IsFirstLow ls (PLACES * g) n k (Some b) → IsFirstMark ls hs g k (Some b)
first_small ls hs g k n q b x f e le s = (
  mark_low ls hs b.0 b.1 x s.0,
  omega (arith, s.1, s.2, le),
  s.3,
  λ i o h at before.
      elim (cases_lt o WORD_LEVELS) [
        | inl low ↦ s.4 i o (is_low ls hs i o x h low) (omega (arith, at)) before
        | inr high ↦ large_later hs g k q n i o f e (is_high ls hs i o h high) at (omega (arith, s.2, before))
      ],
)

-- and where those have none
pub first_not_small : (ls hs : List ℕ) (g k n : ℕ) (q : Option (ℕ × ℕ)) → IsWords ls hs → k < WORD_LEVELS → IsFirstHigh hs g k q → n ≡ words_before q → IsFirstLow ls (PLACES * g) n k None → IsFirstMark ls hs g k q
first_not_small ls hs g k n None x lt f e s = λ i o h at. elim (cases_lt o WORD_LEVELS) [
  | inl low ↦ s i o (is_low ls hs i o x h low) (omega (arith, at)) (omega (arith, at, e))
  | inr high ↦ f i o (is_high ls hs i o h high) at
]
first_not_small ls hs g k n (Some b) x lt f e s = (
  mark_high ls hs b.0 b.1 f.0,
  f.1,
  f.2,
  λ i o h at before.
      elim (cases_lt o WORD_LEVELS) [
        | inl low ↦ s i o (is_low ls hs i o x h low) (omega (arith, at)) (omega (arith, e, before, at, f.1, (high_place hs b.0 b.1 f.0.inside f.0.order).whole))
        | inr high ↦ f.3 i o (is_high ls hs i o h high) at before
      ],
)

-- so many words at most are read
pub few_reads : (ls hs : List ℕ) (g k r n a b c : ℕ) (q : Option (ℕ × ℕ)) → IsNearRank ls hs g r → k < WORD_LEVELS → IsFirstHigh hs g k q → n ≡ words_before q → b ≤ a + 1 → (r ≤ WORD_LEVELS → b ≡ a) → c ≤ b + n → c ≤ a + PLACES
few_reads ls hs g k r n a b c None (inl x) lt f e one none le = elim (cases_lt WORD_LEVELS r) [
  | inl more ↦
      let s = x.some (r - 1) (omega arith) in
      absurd (omega (arith, f s.0 (r - 1) (is_high ls hs s.0 (r - 1) s.1 (omega arith)) s.2))
  | inr few ↦ omega (arith, none few, e, le)
]
few_reads ls hs g k r n a b c None (inr x) lt f e one none le = let h = x.1 in absurd (omega (arith, f h.0 h.1 h.2 h.3, h.2.order))
few_reads ls hs g k r n a b c (Some h) x lt f e one none le = omega (arith, e, le, one)

-- a rank that is kept bounds the blocks of its group
pub near_bound : (ls hs : List ℕ) (g r : ℕ) → IsNearRank ls hs g r → IsRankBound ls hs g r
near_bound ls hs g r (inl x) = x.most
near_bound ls hs g r (inr x) = x.0
