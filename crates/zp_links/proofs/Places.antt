-- Lists by places: a page put in, where a page stands, and the list that links spell.
use Rattle.std.proofs.Common.{ℕ, zero, suc, ◌≡◌, ◌≤◌, ◌<◌, ◌==◌, ◌≢◌, ◌⊎◌, inl, inr, refl, sym, arith, true, false, List, [], ◌∷◌, ◌++◌, length, Option, Some, slice_get, eq-eqb, ne_eqb, eqb}
use Rattle.std.specs.List.{IsDistinct, AllByRecursion}
use Rattle.std.proofs.lemmas.Map.Steps.{length-le_from_distinct_below}
use Rattle.std.proofs.lemmas.Bool.{cases_lt}
use Rattle.std.proofs.lemmas.Bool.Decides.{eqb_tells}
use Rattle.std.proofs.lemmas.Option.{slice_get_past}
use Rattle.zp_model.specs.Rows.{list_at, stands_in, IsLoose, without_page, front, after}
use Rattle.zp_table.specs.declared.entry.PageEntry.{PageEntry}
use Rattle.zp_links.specs.Linked.{forward_at, end_if, walk, before, StandsNowhere}

-- a list with a page put in at place i
abbrev pub put : List ℕ → ℕ → ℕ → List ℕ
put xs zero p = p ∷ xs
put [] (suc i) p = p ∷ []
put (x ∷ xs) (suc i) p = x ∷ put xs i p

-- the place in the longer list of what stood at place j
abbrev pub up : ℕ → ℕ → ℕ
up zero j = suc j
up (suc i) zero = zero
up (suc i) (suc j) = suc (up i j)

pub up_is : (i j : ℕ) → ((j < i) × (up i j ≡ j)) ⊎ ((i ≤ j) × (up i j ≡ suc j))
up_is zero j = inr (omega arith, refl)
up_is (suc i) zero = inl (omega arith, refl)
up_is (suc i) (suc j) = elim (up_is i j) [ inl w ↦ inl (omega arith, omega arith) | inr w ↦ inr (omega arith, omega arith) ]

-- each place of the longer list is i or one of those
pub places : (i k : ℕ) → (k ≡ i) ⊎ ((j : ℕ) × (k ≡ up i j))
places zero zero = inl refl
places zero (suc k) = inr (k, refl)
places (suc i) zero = inr (0, refl)
places (suc i) (suc k) = elim (places i k) [ inl w ↦ inl (omega arith) | inr w ↦ inr (suc w.0, omega arith) ]

pub get_up : (xs : List ℕ) (i p j : ℕ) → i ≤ length xs → slice_get (put xs i p) (up i j) ≡ slice_get xs j
get_up xs zero p j l = refl
get_up [] (suc i) p j l = absurd (omega arith)
get_up (x ∷ xs) (suc i) p zero l = refl
get_up (x ∷ xs) (suc i) p (suc j) l = get_up xs i p j (omega arith)

pub put_at : (xs : List ℕ) (i p : ℕ) → i ≤ length xs → slice_get (put xs i p) i ≡ Some p
put_at xs zero p l = refl
put_at [] (suc i) p l = absurd (omega arith)
put_at (x ∷ xs) (suc i) p l = put_at xs i p (omega arith)

pub length-put : (xs : List ℕ) (i p : ℕ) → length (put xs i p) ≡ suc (length xs)
length-put xs zero p = refl
length-put [] (suc i) p = refl
length-put (x ∷ xs) (suc i) p = omega (arith, length-put xs i p)

pub put_last : (xs : List ℕ) (p : ℕ) → put xs (length xs) p ≡ xs ++ p ∷ []
put_last [] p = refl
put_last (x ∷ xs) p = cc (put_last xs p)

-- the neighbours of the page that is put in
pub after_put : (xs : List ℕ) (i p : ℕ) → i ≤ length xs → slice_get (put xs i p) (suc i) ≡ slice_get xs i
after_put xs i p l = let n : up i i ≡ suc i = omega (arith, up_is i i) in rw n at (get_up xs i p i l)

pub before_put : (xs : List ℕ) (i p : ℕ) → i ≤ length xs → before (put xs i p) i ≡ before xs i
before_put xs zero p l = refl
before_put xs (suc i) p l = let n : up (suc i) i ≡ i = omega (arith, up_is (suc i) i) in rw n at (get_up xs (suc i) p i l)

-- the neighbours of a page elsewhere: the page that is put in, or those that it had
pub next_up : (xs : List ℕ) (i p j : ℕ) → i ≤ length xs → suc j ≢ i → slice_get (put xs i p) (suc (up i j)) ≡ slice_get xs (suc j)
next_up xs i p j l off = let n : up i (suc j) ≡ suc (up i j) = omega (arith, up_is i j, up_is i (suc j)) in rw n at (get_up xs i p (suc j) l)

pub next_put : (xs : List ℕ) (i p j : ℕ) → i ≤ length xs → suc j ≡ i → slice_get (put xs i p) (suc (up i j)) ≡ Some p
next_put xs i p j l e = let n : suc (up i j) ≡ i = omega (arith, up_is i j) in rw n (put_at xs i p l)

pub previous_up : (xs : List ℕ) (i p j : ℕ) → i ≤ length xs → j ≢ i → before (put xs i p) (up i j) ≡ before xs j
previous_up xs i p zero l off = let n : up i 0 ≡ 0 = omega (arith, up_is i 0) in rw n refl
previous_up xs i p (suc j) l off = let n : up i (suc j) ≡ suc (up i j) = omega (arith, up_is i j, up_is i (suc j)) in rw n (get_up xs i p j l)

pub previous_put : (xs : List ℕ) (i p j : ℕ) → i ≤ length xs → j ≡ i → before (put xs i p) (up i j) ≡ Some p
previous_put xs i p j l e = let n : up i j ≡ suc i = omega (arith, up_is i j) in rw n (put_at xs i p l)

pub get_some : (xs : List ℕ) (k : ℕ) → k < length xs → (p : ℕ) × (slice_get xs k ≡ Some p)
get_some [] k l = absurd (omega arith)
get_some (x ∷ xs) zero l = (x, refl)
get_some (x ∷ xs) (suc k) l = get_some xs k (omega arith)

-- the ends of the two lists
pub fronts : (xs : List ℕ) (i p : ℕ) → i ≤ length xs → (end_if (before xs i) (Some p) (slice_get xs 0) ≡ slice_get (put xs i p) 0) × (end_if (before xs i) (slice_get xs i) (slice_get (put xs i p) 0) ≡ slice_get xs 0)
fronts xs zero p l = (refl, refl)
fronts [] (suc i) p l = absurd (omega arith)
fronts (x ∷ xs) (suc i) p l = rw (get_some (x ∷ xs) i l).1 (refl, refl)

pub backs : (xs : List ℕ) (i p : ℕ) → i ≤ length xs → (end_if (slice_get xs i) (Some p) (before xs (length xs)) ≡ before (put xs i p) (length (put xs i p))) × (end_if (slice_get xs i) (before xs i) (before (put xs i p) (length (put xs i p))) ≡ before xs (length xs))
backs xs i p l = rw length-put (elim (cases_lt i (length xs)) [
  | inl lt ↦
      let n : up i (length xs) ≡ suc (length xs) = omega (arith, up_is i (length xs)) in
      let same = rw n at (previous_up xs i p (length xs) l (λ e. omega arith)) in
      rw (get_some xs i lt).1 (sym same, same)
  | inr ge ↦
      let n : length xs ≡ i = omega arith in
      rw (slice_get_past xs i ge, n) (sym (put_at xs i p l), refl)
])

-- a page that isn't there isn't filtered
without-absent : (p : ℕ) (xs : List ℕ) → ((k : ℕ) → slice_get xs k ≡ Some p → ⊥) → without_page p xs ≡ xs
without-absent p [] h = refl
without-absent p (x ∷ xs) h =
    let t : (x == p) ≡ false = ne_eqb x p (λ e. h 0 cc) in
    rw t (cc (without-absent p xs (λ k e. h (suc k) e)))

-- a list is what is left without a page, with the page put in where it stands
pub put_back : (p : ℕ) (xs : List ℕ) (i : ℕ) → slice_get xs i ≡ Some p → ((k : ℕ) → slice_get xs k ≡ Some p → k ≡ i) → xs ≡ put (without_page p xs) i p
put_back p [] i e u = absurd cc
put_back p (x ∷ xs) zero e u =
    let t : (x == p) ≡ true = eq-eqb x p cc in
    rw t (let absent = without-absent p xs (λ k f. let bad : suc k ≡ 0 = u (suc k) f in omega arith) in cc)
put_back p (x ∷ xs) (suc i) e u =
    let t : (x == p) ≡ false = ne_eqb x p (λ s. let bad : 0 ≡ suc i = u 0 cc in omega arith) in
    rw t (cc (put_back p xs i e (λ k f. let same : suc k ≡ suc i = u (suc k) f in omega arith)))

pub walk_is : (xs : List ℕ) (t : List PageEntry) (o : Option ℕ) → o ≡ slice_get xs 0 → ((k p : ℕ) → slice_get xs k ≡ Some p → forward_at t p ≡ slice_get xs (suc k)) → walk (length xs) t o ≡ xs
walk_is [] t o e h = refl
walk_is (x ∷ xs) t o e h = rw e (cc (walk_is xs t (forward_at t x) (h 0 x refl) (λ k p f. h (suc k) p f)))

-- a page stands on a list where it stands at some place
pub stands_at : (xs : List ℕ) (k p : ℕ) → slice_get xs k ≡ Some p → stands_in p xs ≡ true
stands_at [] k p e = absurd cc
stands_at (x ∷ xs) zero p e = let t : eqb p x ≡ true = eq-eqb p x cc in rw t refl
stands_at (x ∷ xs) (suc k) p e = elim (eqb_tells p x) [ inl w ↦ rw w.0 refl | inr w ↦ rw w.0 (stands_at xs k p e) ]

pub any_at : (xs : List ℕ) (p : ℕ) → stands_in p xs ≡ true → (k : ℕ) × (slice_get xs k ≡ Some p)
any_at [] p h = absurd cc
any_at (x ∷ xs) p h = elim (eqb_tells p x) [
  | inl w ↦ (0, cc)
  | inr w ↦ let v = any_at xs p (rw w.0 at h) in (suc v.0, v.1)
]

pub none_at : (xs : List ℕ) (p : ℕ) → ((k : ℕ) → slice_get xs k ≡ Some p → ⊥) → stands_in p xs ≡ false
none_at [] p none = refl
none_at (x ∷ xs) p none = let t : eqb p x ≡ false = ne_eqb p x (λ e. none 0 cc) in rw t (none_at xs p (λ k e. none (suc k) e))

pub nowhere : (ls : List (List ℕ)) (p : ℕ) → IsLoose ls p → StandsNowhere ls p
nowhere ls p none r k e = let found = stands_at (list_at ls r) k p e in let absent = none r in absurd cc

-- what the page before place i is, where the pages at the places below are that
pub before_has : (xs : List ℕ) (i : ℕ) (P : ℕ → Type 0) → ((k q : ℕ) → suc k ≡ i → slice_get xs k ≡ Some q → P q) → (q : ℕ) → before xs i ≡ Some q → P q
before_has xs zero P h q e = absurd cc
before_has xs (suc i) P h q e = h i q refl e

-- the page in front of a list is the one at its first place
pub front_is : (xs : List ℕ) → front xs ≡ slice_get xs 0
front_is [] = refl
front_is (x ∷ xs) = refl

-- what stands after a page that stands once
pub after_is : (xs : List ℕ) (k p : ℕ) → slice_get xs k ≡ Some p → ((j : ℕ) → slice_get xs j ≡ Some p → j ≡ k) → after p xs ≡ slice_get xs (suc k)
after_is [] k p e once = absurd cc
after_is (x ∷ xs) zero p e once = let t : (x == p) ≡ true = eq-eqb x p cc in rw t (front_is xs)
after_is (x ∷ xs) (suc k) p e once =
    let t : (x == p) ≡ false = ne_eqb x p (λ s. let bad : 0 ≡ suc k = once 0 cc in omega arith) in
    rw t (after_is xs k p e (λ j f. let same : suc j ≡ suc k = once (suc j) f in omega arith))

-- no page stands at two places of a list
abbrev pub StandOnce : List ℕ → Type 0
StandOnce xs = (j k q : ℕ) → slice_get xs j ≡ Some q → slice_get xs k ≡ Some q → j ≡ k

pub distinct : (xs : List ℕ) → StandOnce xs → IsDistinct eqb xs
unfolding IsDistinct
distinct [] h = tt
distinct (x ∷ xs) h =
    (all_differ xs (λ k e. let bad : 0 ≡ suc k = h 0 (suc k) x refl e in omega arith), distinct xs (λ j k q a b. let s : suc j ≡ suc k = h (suc j) (suc k) q a b in omega arith))
  where
    all_differ : (ys : List ℕ) → ((k : ℕ) → slice_get ys k ≡ Some x → ⊥) → AllByRecursion (λ y. eqb x y ≡ false) ys
    all_differ [] g = tt
    all_differ (y ∷ ys) g = (ne_eqb x y (λ e. g 0 cc), all_differ ys (λ k e. g (suc k) e))

-- pages below n that don't repeat are at most n
pub short : (xs : List ℕ) (n : ℕ) → StandOnce xs → ((k q : ℕ) → slice_get xs k ≡ Some q → q < n) → length xs ≤ n
short xs n h b = length-le_from_distinct_below xs n (distinct xs h) (λ q e. let w = any_at xs q e in b w.0 q w.1)
