-- What the tests on runs say: each page of a run is in a set; the lowest run that passes, and that none does.
use Rattle.std.proofs.Common.{ℕ, suc, zero, ◌+◌, ◌-◌, ◌≡◌, ◌≤◌, ◌<◌, inl, inr, refl, sym, ◌∙◌, ap, arith, Bool, true, false, not, ◌&&◌, List, length, map, None, Some}
use Rattle.std.specs.List.{find, list_all, range_with_len}
use Rattle.std.proofs.lemmas.Bool.{and_parts, and_from, cases_Bool, cases_eq, not-true}
use Rattle.std.proofs.lemmas.List.FromFn.{get_or-map-range_with_len, length-map-range_with_len}
use Rattle.std.proofs.lemmas.Option.{none-some, same_Some}
use Rattle.zp_model.specs.declared.pageblock_type.PageblockType.{PageblockType}
use Rattle.zp_model.specs.Area.{available, is_isolated}
use Rattle.zp_model.specs.Block.{has}
use Rattle.zp_model.specs.Zone.{PlainZone, pages_of}
use Rattle.zp_model.specs.Runs.{has_pages, is_run_for, lowest_run}
use Rattle.zp_model.proofs.Covers.{has_below}
use Rattle.zp_model.proofs.Pages.{In}

pub all-to : (p : ℕ → Bool) (h n : ℕ) → list_all p (range_with_len h n) ≡ true → (i : ℕ) → h ≤ i → i < h + n → p i ≡ true
all-to p h zero e i a b = absurd (omega arith)
all-to p h (suc n) e i a b =
    let x = and_parts _ _ e in
    elim (cases_eq h i) [ inl same ↦ ap p (sym same) ∙ x.0 | inr other ↦ all-to p (h + 1) n x.1 i (omega arith) (omega arith) ]

pub all-from : (p : ℕ → Bool) (h n : ℕ) → ((i : ℕ) → h ≤ i → i < h + n → p i ≡ true) → list_all p (range_with_len h n) ≡ true
all-from p h zero f = refl
all-from p h (suc n) f = and_from _ _ (f h (omega arith) (omega arith)) (all-from p (h + 1) n (λ i a b. f i (omega arith) (omega arith)))

-- each page of the run is in the set
pub has_pages-to : (u : List Bool) (h n : ℕ) → has_pages u h n ≡ true → (i : ℕ) → h ≤ i → i < h + n → In u i
unfolding has_pages
has_pages-to u h n e = all-to (has u) h n e

pub has_pages-from : (u : List Bool) (h n : ℕ) → ((i : ℕ) → h ≤ i → i < h + n → In u i) → has_pages u h n ≡ true
unfolding has_pages
has_pages-from u h n f = all-from (has u) h n f

first_some : (p : ℕ → Bool) (a n k : ℕ) → a ≤ k → k < a + n → p k ≡ true → ((i : ℕ) → a ≤ i → i < k → p i ≡ false) → find p (range_with_len a n) ≡ Some k
first_some p a zero k lo hi e least = absurd (omega arith)
first_some p a (suc n) k lo hi e least =
    elim (cases_eq a k) [
      | inl same ↦ rw (same, e) refl
      | inr other ↦ rw (least a (omega arith) (omega arith)) (first_some p (a + 1) n k (omega arith) (omega arith) e (λ i x y. least i (omega arith) y))
    ]

first_none : (p : ℕ → Bool) (a n : ℕ) → ((i : ℕ) → a ≤ i → i < a + n → p i ≡ false) → find p (range_with_len a n) ≡ None
first_none p a zero f = refl
first_none p a (suc n) f = rw (f a (omega arith) (omega arith)) (first_none p (a + 1) n (λ i x y. f i (omega arith) (omega arith)))

-- the pages of a set that lie outside isolated pageblocks are in the set
pub available-to : (m : ℕ) (kinds : List PageblockType) (u : List Bool) (i : ℕ) → In (available m kinds u) i → In u i × (is_isolated m kinds i ≡ false)
unfolding available
available-to m kinds u i e =
    let f : ℕ → Bool = λ h. has u h && not (is_isolated m kinds h) in
    let lt : i < length u = omega (arith, has_below (map f (range_with_len 0 (length u))) i e, length-map-range_with_len f 0 (length u)) in
    let a = and_parts _ _ (sym (get_or-map-range_with_len f 0 (length u) i i false lt (omega arith)) ∙ e) in
    (a.0, not-true _ a.1)

pub available-from : (m : ℕ) (kinds : List PageblockType) (u : List Bool) (i : ℕ) → In u i → is_isolated m kinds i ≡ false → In (available m kinds u) i
unfolding available
available-from m kinds u i e f =
    get_or-map-range_with_len (λ h. has u h && not (is_isolated m kinds h)) 0 (length u) i i false (has_below u i e) (omega arith) ∙ and_from _ _ e (rw f refl)

-- what is found first passes, and no number below it does
first_found : (p : ℕ → Bool) (a n k : ℕ) → find p (range_with_len a n) ≡ Some k → (a ≤ k) × (k < a + n) × (p k ≡ true) × ((i : ℕ) → a ≤ i → i < k → p i ≡ false)
first_found p a zero k e = absurd (none-some k e)
first_found p a (suc n) k e =
    elim (cases_Bool (p a)) [
      | inl t ↦
          let same : a ≡ k = same_Some a k (rw t at e) in
          (omega arith, omega arith, ap p (sym same) ∙ t, λ i x y. absurd (omega arith))
      | inr f ↦
          let r = first_found p (a + 1) n k (rw f at e) in
          (omega (arith, r.0), omega (arith, r.1), r.2, λ i x y. elim (cases_eq i a) [ inl same ↦ ap p same ∙ f | inr other ↦ r.3 i (omega arith) y ])
    ]

-- the lowest run is one of the zone's that passes, and none below does
pub lowest_found : (z : PlainZone) (n a h : ℕ) → lowest_run z n a ≡ Some h →
    (h + n ≤ pages_of z) × (is_run_for z n a h ≡ true) × ((g : ℕ) → g < h → is_run_for z n a g ≡ false)
unfolding lowest_run
lowest_found z n a h e =
    let r = first_found (is_run_for z n a) 0 (pages_of z + 1 - n) h e in
    (omega (arith, r.1), r.2, λ g lt. r.3 g (omega arith) lt)

-- a run of the zone that passes, where none below does, is the lowest
pub lowest_some : (z : PlainZone) (n a h : ℕ) → h + n ≤ pages_of z → is_run_for z n a h ≡ true → ((g : ℕ) → g < h → is_run_for z n a g ≡ false) → lowest_run z n a ≡ Some h
unfolding lowest_run
lowest_some z n a h le e least = first_some (is_run_for z n a) 0 (pages_of z + 1 - n) h (omega arith) (omega arith) e (λ i x y. least i y)

-- there is none where no run of the zone passes
pub lowest_none : (z : PlainZone) (n a : ℕ) → ((g : ℕ) → g + n ≤ pages_of z → is_run_for z n a g ≡ false) → lowest_run z n a ≡ None
unfolding lowest_run
lowest_none z n a f = first_none (is_run_for z n a) 0 (pages_of z + 1 - n) (λ i x y. f i (omega arith))
