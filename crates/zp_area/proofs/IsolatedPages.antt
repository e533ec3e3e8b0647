-- The free pages of isolated pageblocks: their sum, when one number or one type changes, and beside the pages that are available.
use Rattle.std.proofs.Common.{ℕ, zero, suc, ◌+◌, ◌-◌, ◌*◌, ◌^◌, ◌≡◌, ◌≤◌, ◌<◌, inl, inr, refl, sym, ◌∙◌, ap, arith, Bool, true, false, not, ◌&&◌, cond, List, [], ◌∷◌, length, set}
use Rattle.std.specs.List.{range_with_len, count_by, slice_index, slice_index_or}
use Rattle.std.proofs.Math.Bool.{and-false, and-true}
use Rattle.std.proofs.Math.Nat.{suc-mul}
use Rattle.std.proofs.lemmas.Bool.{cases_Bool, cases_lt}
use Rattle.std.proofs.lemmas.Nat.{pow_pos, shr_split}
use Rattle.std.proofs.lemmas.List.{get_or_past}
use Rattle.std.proofs.lemmas.List.FromFn.{get_or-map-range_with_len, length-map-range_with_len}
use Rattle.std.proofs.lemmas.List.Sums.{sum_by-cons}
use Rattle.zp_model.specs.declared.pageblock_type.PageblockType.{PageblockType}
use Rattle.zp_model.specs.declared.pageblock_type.PageblockType.TheVariants.{Movable}
use Rattle.zp_model.specs.PageblockType.{is_isolate}
use Rattle.zp_model.specs.Block.{has, size}
use Rattle.zp_model.specs.Area.{available, is_isolated, pageblock_pages, pageblocks_of, size_in}
use Rattle.zp_model.proofs.Heads.{number_within}
use Rattle.zp_laws.proofs.Counting.{count-none, one_if, size-range, sums-same}
use Rattle.zp_area.specs.Available.{isolated_sum}

-- another number of a pageblock that is not isolated
pub sum_open : (ts : List PageblockType) (ns : List ℕ) (b n : ℕ) → is_isolate (slice_index_or ts b Movable) ≡ false → isolated_sum ts (set ns b n) ≡ isolated_sum ts ns
sum_open [] ns b n e = refl
sum_open (t ∷ ts) [] b n e = refl
sum_open (t ∷ ts) (k ∷ ns) zero n e = rw e refl
sum_open (t ∷ ts) (k ∷ ns) (suc b) n e = ap (λ q. cond (is_isolate t) k 0 + q) (sum_open ts ns b n e)

-- the number of an isolated one is part of the sum
pub sum_isolated : (ts : List PageblockType) (ns : List ℕ) (b n : ℕ) → b < length ts → b < length ns → is_isolate (slice_index_or ts b Movable) ≡ true →
    isolated_sum ts (set ns b n) + slice_index ns b ≡ isolated_sum ts ns + n
sum_isolated [] ns b n lt le e = absurd (omega arith)
sum_isolated (t ∷ ts) [] b n lt le e = absurd (omega arith)
sum_isolated (t ∷ ts) (k ∷ ns) zero n lt le e = rw e (omega arith)
sum_isolated (t ∷ ts) (k ∷ ns) (suc b) n lt le e = omega (arith, sum_isolated ts ns b n (omega arith) (omega arith) e)

-- so pages that come to a pageblock of this type are counted where it is isolated
pub sum_added : (ts : List PageblockType) (ns : List ℕ) (b p : ℕ) (t : PageblockType) → t ≡ slice_index_or ts b Movable → b < length ts → b < length ns →
    cond (is_isolate t) (isolated_sum ts ns + p) (isolated_sum ts ns) ≡ isolated_sum ts (set ns b (slice_index ns b + p))
sum_added ts ns b p t e lt le = elim (cases_Bool (is_isolate t)) [
  | inl is ↦ rw is (omega (arith, sum_isolated ts ns b (slice_index ns b + p) lt le (ap is_isolate (sym e) ∙ is)))
  | inr not ↦ rw not (sym (sum_open ts ns b (slice_index ns b + p) (ap is_isolate (sym e) ∙ not)))
]

-- another type of one pageblock
pub sum_typed : (ts : List PageblockType) (ns : List ℕ) (b : ℕ) (t : PageblockType) → b < length ts → b < length ns →
    isolated_sum (set ts b t) ns + cond (is_isolate (slice_index_or ts b Movable)) (slice_index ns b) 0 ≡ isolated_sum ts ns + cond (is_isolate t) (slice_index ns b) 0
sum_typed [] ns b t lt le = absurd (omega arith)
sum_typed (s ∷ ts) [] b t lt le = absurd (omega arith)
sum_typed (s ∷ ts) (k ∷ ns) zero t lt le = omega arith
sum_typed (s ∷ ts) (k ∷ ns) (suc b) t lt le = omega (arith, sum_typed ts ns b t (omega arith) (omega arith))

-- where no pageblock is isolated there are none
pub sum_none : (ts : List PageblockType) (ns : List ℕ) → ((b : ℕ) → is_isolate (slice_index_or ts b Movable) ≡ false) → isolated_sum ts ns ≡ 0
sum_none [] ns e = refl
sum_none (t ∷ ts) [] e = refl
sum_none (t ∷ ts) (n ∷ ns) e = rw (e 0, sum_none ts ns (λ b. e (suc b))) refl

-- a count over two ranges, one after the other
counts-split : (p : ℕ → Bool) (a m n : ℕ) → count_by p (range_with_len a (m + n)) ≡ count_by p (range_with_len a m) + count_by p (range_with_len (a + m) n)
counts-split p a zero n =
    let e : a + 0 ≡ a = omega arith in
    let z : 0 + n ≡ n = omega arith in
    let none : count_by p (range_with_len a 0) ≡ 0 = refl in
    omega (arith, none, ap (λ q. count_by p (range_with_len q n)) e, ap (λ q. count_by p (range_with_len a q)) z)
counts-split p a (suc m) n =
    let e : a + suc m ≡ a + 1 + m = omega arith in
    let z : suc m + n ≡ suc (m + n) = omega arith in
    ap (λ q. count_by p (range_with_len a q)) z ∙ sum_by-cons (λ i. one_if (p i)) a (range_with_len (a + 1) (m + n))
    ∙ omega (arith, counts-split p (a + 1) m n, sum_by-cons (λ i. one_if (p i)) a (range_with_len (a + 1) m), ap (λ q. count_by p (range_with_len q n)) e)

counts-past : (p : ℕ → Bool) (n k : ℕ) → ((i : ℕ) → n ≤ i → p i ≡ false) → n ≤ k → count_by p (range_with_len 0 k) ≡ count_by p (range_with_len 0 n)
counts-past p n k f le =
    let e : n + (k - n) ≡ k = omega arith in
    let z : 0 + n ≡ n = omega arith in
    ap (λ q. count_by p (range_with_len 0 q)) (sym e) ∙ counts-split p 0 n (k - n)
    ∙ omega (arith, count-none p n (k - n) (λ i lo hi. f i lo), ap (λ q. count_by p (range_with_len q (k - n))) z)

module _ (m : ℕ) (kinds : List PageblockType) (u : List Bool) where
  length-available : length (available m kinds u) ≡ length u
  unfolding available
  length-available = length-map-range_with_len (λ h. has u h && not (is_isolated m kinds h)) 0 (length u)

  pub has-available : (i : ℕ) → has (available m kinds u) i ≡ (has u i && not (is_isolated m kinds i))
  unfolding available
  has-available i = elim (cases_lt i (length u)) [
    | inl lt ↦ get_or-map-range_with_len (λ h. has u h && not (is_isolated m kinds h)) 0 (length u) i i false lt (omega arith)
    | inr ge ↦ get_or_past (available m kinds u) i false (omega (arith, length-available)) ∙ sym (rw (get_or_past u i false ge) refl)
  ]

  -- of one pageblock all free pages are available, or none
  one_block : (b : ℕ) → count_by (has (available m kinds u)) (range_with_len (b * pageblock_pages m) (pageblock_pages m)) + cond (is_isolate (slice_index_or kinds b Movable)) (size_in m u b) 0 ≡ size_in m u b
  unfolding size_in
  one_block b = elim (cases_Bool (is_isolate (slice_index_or kinds b Movable))) [
    | inl is ↦ rw is (omega (
      arith,
      count-none (has (available m kinds u)) (b * pageblock_pages m) (pageblock_pages m) (λ i lo hi.
          has-available i ∙ rw (there i lo hi is) (and-false (has u i))),
    ))
    | inr not ↦ rw not (omega (
      arith,
      sums-same (λ i. one_if (has (available m kinds u) i)) (λ i. one_if (has u i)) (b * pageblock_pages m) (pageblock_pages m) (λ i lo hi.
          ap one_if (has-available i ∙ rw (there i lo hi not) (and-true (has u i)))),
    ))
  ]
    where
      there : (i : ℕ) {c : Bool} → b * pageblock_pages m ≤ i → i < b * pageblock_pages m + pageblock_pages m → is_isolate (slice_index_or kinds b Movable) ≡ c → is_isolated m kinds i ≡ c
      there i lo hi e = ap (λ q. is_isolate (slice_index_or kinds q Movable)) (number_within b m i lo hi) ∙ e

  from_block : (b : ℕ) (ts : List PageblockType) (ns : List ℕ) → length ns ≡ length ts → ((j : ℕ) → slice_index_or ts j Movable ≡ slice_index_or kinds (b + j) Movable) →
      ((j : ℕ) → j < length ns → slice_index ns j ≡ size_in m u (b + j)) →
      count_by (has (available m kinds u)) (range_with_len (b * pageblock_pages m) (length ts * pageblock_pages m)) + isolated_sum ts ns
      ≡ count_by (has u) (range_with_len (b * pageblock_pages m) (length ts * pageblock_pages m))
  unfolding size_in
  from_block b [] ns len k z = let none : 0 * pageblock_pages m ≡ 0 = omega arith in rw none refl
  from_block b (t ∷ ts) [] len k z = absurd (omega arith)
  from_block b (t ∷ ts) (n ∷ ns) len k z =
      let l : ℕ = length ts * pageblock_pages m in
      let more : length (t ∷ ts) * pageblock_pages m ≡ pageblock_pages m + length ts * pageblock_pages m = suc-mul (length ts) (2 ^ m) ∙ omega arith in
      let next : b * pageblock_pages m + pageblock_pages m ≡ (b + 1) * pageblock_pages m = omega (arith, suc-mul b (2 ^ m)) in
      let parts : (p : ℕ → Bool) → count_by p (range_with_len (b * pageblock_pages m) (length (t ∷ ts) * pageblock_pages m)) ≡
      count_by p (range_with_len (b * pageblock_pages m) (pageblock_pages m)) + count_by p (range_with_len ((b + 1) * pageblock_pages m) (length ts * pageblock_pages m)) =
      λ p. ap (λ q. count_by p (range_with_len (b * pageblock_pages m) q)) more ∙ counts-split p (b * pageblock_pages m) (pageblock_pages m) (length ts * pageblock_pages m)
      ∙ ap (λ q. count_by p (range_with_len (b * pageblock_pages m) (pageblock_pages m)) + count_by p (range_with_len q (length ts * pageblock_pages m))) next in
      let here : b + 0 ≡ b = omega arith in
      let first : t ≡ slice_index_or kinds b Movable = k 0 ∙ ap (λ q. slice_index_or kinds q Movable) here in
      let number : n ≡ size_in m u b = z 0 (omega arith) ∙ ap (size_in m u) here in
      let up : (j : ℕ) → b + suc j ≡ b + 1 + j = λ j. omega arith in
      let rest = from_block (b + 1) ts ns (omega arith) (λ j. k (suc j) ∙ ap (λ q. slice_index_or kinds q Movable) (up j)) (λ j lt. z (suc j) (omega arith) ∙ ap (size_in m u) (up j)) in
      let one : cond (is_isolate t) n 0 ≡ cond (is_isolate (slice_index_or kinds b Movable)) (size_in m u b) 0 =
      ap (λ q. cond (is_isolate q) n 0) first ∙ ap (λ q. cond (is_isolate (slice_index_or kinds b Movable)) q 0) number in
      let whole : size_in m u b ≡ count_by (has u) (range_with_len (b * pageblock_pages m) (pageblock_pages m)) = refl in
      let sum : isolated_sum (t ∷ ts) (n ∷ ns) ≡ cond (is_isolate t) n 0 + isolated_sum ts ns = refl in
      omega (arith, parts (has (available m kinds u)), parts (has u), one, whole, sum, one_block b, rest)

  -- the free pages are those that are available and those of the isolated pageblocks
  pub available_beside : (ns : List ℕ) → length kinds ≡ pageblocks_of m (length u) → length ns ≡ length kinds → ((b : ℕ) → slice_index ns b ≡ size_in m u b) →
      size (available m kinds u) + isolated_sum kinds ns ≡ size u
  available_beside ns typed len z =
      let n : ℕ = length u in
      let all : n ≤ length kinds * pageblock_pages m = rw typed (omega (arith, shr_split (n + (2 ^ m - 1)) m, pow_pos m)) in
      let v : ℕ = length kinds * pageblock_pages m in
      let same : (j : ℕ) → 0 + j ≡ j = λ j. omega arith in
      let start : 0 * pageblock_pages m ≡ 0 = omega arith in
      let whole = from_block 0 kinds ns len (λ j. ap (λ q. slice_index_or kinds q Movable) (sym (same j))) (λ j lt. z j ∙ ap (size_in m u) (sym (same j))) in
      let w : size (available m kinds u) ≡ count_by (has (available m kinds u)) (range_with_len 0 (length kinds * pageblock_pages m)) =
      size-range (available m kinds u) ∙ ap (λ q. count_by (has (available m kinds u)) (range_with_len 0 q)) length-available
      ∙ sym (counts-past (has (available m kinds u)) (length u) (length kinds * pageblock_pages m) (λ i ge. get_or_past (available m kinds u) i false (omega (arith, length-available))) all) in
      let x : size u ≡ count_by (has u) (range_with_len 0 (length kinds * pageblock_pages m)) =
      size-range u ∙ sym (counts-past (has u) (length u) (length kinds * pageblock_pages m) (λ i ge. get_or_past u i false ge) all) in
      omega (arith, whole, w, x, ap (λ q. count_by (has u) (range_with_len q (length kinds * pageblock_pages m))) start, ap (λ q. count_by (has (available m kinds u)) (range_with_len q (length kinds * pageblock_pages m))) start)
