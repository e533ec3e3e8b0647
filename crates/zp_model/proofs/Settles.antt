-- What settling leaves of one list, where the list that is left holds what belongs.
use Rattle.std.proofs.Common.{ℕ, suc, zero, ◌/◌, ◌≡◌, ◌<◌, ◌==◌, ◌⊎◌, inl, inr, refl, ap, arith, Bool, true, false, List, [], ◌∷◌, length, not, ◌&&◌, cond, Option}
use Rattle.std.specs.List.{filter, IsDistinct, AllByRecursion}
use Rattle.std.proofs.Math.Bool.{or-true}
use Rattle.std.proofs.lemmas.Nat.{pow_pos}
use Rattle.std.proofs.lemmas.Bool.{and_parts, and_from, or_cases, cases_eq, eqb-true, eq-eqb, false≢true, not-true, both_ways, false_from_ne_true}
use Rattle.zp_model.specs.declared.pageblock_type.PageblockType.{PageblockType}
use Rattle.zp_model.specs.PageblockType.{pageblock_types}
use Rattle.zp_model.specs.Rows.{stands_in}
use Rattle.zp_model.specs.Area.{falling, belongs, settled}
use Rattle.zp_model.specs.BlockSet.{Starts, cover}
use Rattle.zp_model.proofs.Normal.{IsNormal, maximal_from, maximal_to}
use Rattle.zp_model.proofs.Pages.{In, is_max-to, is_max-from}
use Rattle.zp_model.proofs.Covers.{has_below}
use Rattle.zp_model.specs.Lawful.{Here, IsListed}

pub stands_first : (h : ℕ) (xs : List ℕ) → stands_in h (h ∷ xs) ≡ true
stands_first h xs = rw (eq-eqb h h refl) refl

pub stands_later : (h x : ℕ) (xs : List ℕ) → stands_in h xs ≡ true → stands_in h (x ∷ xs) ≡ true
stands_later h x xs e = rw e (or-true (h == x))

pub stands_cases : (h x : ℕ) (xs : List ℕ) → stands_in h (x ∷ xs) ≡ true → (h ≡ x) ⊎ (stands_in h xs ≡ true)
stands_cases h x xs e = elim (or_cases _ _ e) [ inl a ↦ inl (eqb-true h x a) | inr b ↦ inr b ]

-- tests that agree at each page of a list keep the same pages of it
pub filter_same : (p q : ℕ → Bool) (xs : List ℕ) → ((x : ℕ) → stands_in x xs ≡ true → p x ≡ q x) → filter p xs ≡ filter q xs
filter_same p q [] f = refl
filter_same p q (x ∷ xs) f = rw (f x (stands_first x xs)) (ap (λ ys. cond (q x) (x ∷ ys) ys) (filter_same p q xs (λ y e. f y (stands_later y x xs e))))

pub filter_all : (p : ℕ → Bool) (xs : List ℕ) → ((x : ℕ) → stands_in x xs ≡ true → p x ≡ true) → filter p xs ≡ xs
filter_all p [] f = refl
filter_all p (x ∷ xs) f =
    rw (f x (stands_first x xs)) (ap (λ ys. x ∷ ys) (filter_all p xs (λ y e. f y (stands_later y x xs e))))

pub falling_none : (p : ℕ → Bool) (n : ℕ) → ((x : ℕ) → x < n → p x ≡ false) → filter p (falling n) ≡ []
falling_none p zero f = refl
falling_none p (suc n) f = rw (f n (omega arith)) (falling_none p n (λ x lt. f x (omega arith)))

pub falling_one : (p : ℕ → Bool) (n g : ℕ) → g < n → p g ≡ true → ((x : ℕ) → p x ≡ true → x ≡ g) → filter p (falling n) ≡ g ∷ []
falling_one p zero g lt e f = absurd (omega arith)
falling_one p (suc n) g lt e f =
    elim (cases_eq n g) [
      | inl same ↦ rw (same, e, falling_none p g (λ x l. false_from_ne_true (p x) (λ t. let q : x ≡ g = f x t in omega arith)))
      | inr ne ↦ rw (false_from_ne_true (p n) (λ t. ne (f n t))) (falling_one p n g (omega arith) e f)
    ]

-- the first of distinct ones does not stand among the others
pub distinct_first : (h : ℕ) (xs : List ℕ) → IsDistinct (λ x y. x == y) (h ∷ xs) → stands_in h xs ≡ true → ⊥
unfolding IsDistinct
distinct_first h [] d e = false≢true e
distinct_first h (x ∷ xs) d e =
    elim (stands_cases h x xs e) [
      | inl same ↦ both_ways (h == x) d.0.0 (eq-eqb h x same)
      | inr later ↦ distinct_first h xs (d.0.1, d.1.1) later
    ]

-- a page that stands on no list of distinct ones makes the list longer by one, and is distinct from them
pub distinct_more : (h : ℕ) (xs : List ℕ) → IsDistinct (λ x y. x == y) xs → (stands_in h xs ≡ true → ⊥) → IsDistinct (λ x y. x == y) (h ∷ xs)
unfolding IsDistinct
distinct_more h xs d out = (apart_from h xs out, d)
  where
    apart_from : (h : ℕ) (xs : List ℕ) → (stands_in h xs ≡ true → ⊥) → AllByRecursion (λ y. (h == y) ≡ false) xs
    apart_from h [] out = tt
    apart_from h (x ∷ xs) out =
        (false_from_ne_true (h == x) (λ e. out (rw e refl)), apart_from h xs (λ e. out (stands_later h x xs e)))

pub distinct_rest : (h : ℕ) (xs : List ℕ) → IsDistinct (λ x y. x == y) (h ∷ xs) → IsDistinct (λ x y. x == y) xs
unfolding IsDistinct
distinct_rest h xs d = d.1

module _ (m : ℕ) (t : List (Option ℕ)) (kinds : List PageblockType) (r : ℕ) where
  pub belongs-to : (h : ℕ) → IsNormal m (Starts t) (In (cover t)) → belongs m (cover t) kinds r h ≡ true → Here m t kinds r h
  unfolding belongs
  belongs-to h z e =
      let a = and_parts _ _ e in
      (maximal_to m (Starts t) (In (cover t)) z h (r / pageblock_types) (is_max-to m (cover t) h (r / pageblock_types) a.0), eqb-true _ _ a.1)

  pub belongs-from : (h : ℕ) → IsNormal m (Starts t) (In (cover t)) → Here m t kinds r h → belongs m (cover t) kinds r h ≡ true
  unfolding belongs
  belongs-from h z x =
      and_from _ _ (is_max-from m (cover t) h (r / pageblock_types) (maximal_from m (Starts t) (In (cover t)) z h (r / pageblock_types) x.0)) (eq-eqb _ _ x.1)

  old_left : (xs : List ℕ) → IsNormal m (Starts t) (In (cover t)) → ((h : ℕ) → stands_in h xs ≡ true → Here m t kinds r h) → filter (belongs m (cover t) kinds r) xs ≡ xs
  old_left xs z f = filter_all (belongs m (cover t) kinds r) xs (λ x e. belongs-from x z (f x e))

  -- a settled list to which nothing comes
  pub settled_kept : (xs ys : List ℕ) → IsNormal m (Starts t) (In (cover t)) → filter (belongs m (cover t) kinds r) xs ≡ ys →
      ((h : ℕ) → Here m t kinds r h → stands_in h xs ≡ true) → settled m (cover t) kinds r xs ≡ ys
  unfolding settled
  settled_kept xs ys z e f =
      let none = falling_none (λ h. belongs m (cover t) kinds r h && not (stands_in h xs)) (length (cover t)) (λ x lt. false_from_ne_true _ (λ e.
      let a = and_parts _ _ e in
      both_ways (stands_in x xs) (not-true _ a.1) (f x (belongs-to x z a.0)))) in
      rw none e

  -- a settled list to which one head comes
  pub settled_new : (g : ℕ) (xs ys : List ℕ) → IsNormal m (Starts t) (In (cover t)) → filter (belongs m (cover t) kinds r) xs ≡ ys → Here m t kinds r g →
      (stands_in g xs ≡ true → ⊥) → ((h : ℕ) → Here m t kinds r h → (h ≡ g) ⊎ (stands_in h xs ≡ true)) → settled m (cover t) kinds r xs ≡ g ∷ ys
  unfolding settled
  settled_new g xs ys z e w out f =
      let p : ℕ → Bool = λ h. belongs m (cover t) kinds r h && not (stands_in h xs) in
      let inside : In (cover t) g = z.inside g (r / pageblock_types) w.0 g (omega arith) (omega (arith, pow_pos (r / pageblock_types))) in
      let new : stands_in g xs ≡ false = false_from_ne_true _ out in
      let only : (x : ℕ) → p x ≡ true → x ≡ g = λ x q.
      let a = and_parts _ _ q in
      elim (f x (belongs-to x z a.0)) [ inl same ↦ same | inr old ↦ absurd (both_ways (stands_in x xs) (not-true _ a.1) old) ] in
      rw (falling_one p (length (cover t)) g (has_below (cover t) g inside) (and_from _ _ (belongs-from g z w) (rw new)) only) (ap (λ zs. g ∷ zs) e)

  pub settled_same : (xs : List ℕ) → IsNormal m (Starts t) (In (cover t)) → IsListed m t kinds r xs → settled m (cover t) kinds r xs ≡ xs
  settled_same xs z l = settled_kept xs xs z (old_left xs z l.to) l.from

  pub settled_more : (g : ℕ) (xs : List ℕ) → IsNormal m (Starts t) (In (cover t)) → IsListed m t kinds r (g ∷ xs) → settled m (cover t) kinds r xs ≡ g ∷ xs
  settled_more g xs z l =
      settled_new g xs xs z (old_left xs z (λ h e. l.to h (stands_later h g xs e))) (l.to g (stands_first g xs)) (distinct_first g xs l.distinct)
      (λ h w. stands_cases h g xs (l.from h w))
