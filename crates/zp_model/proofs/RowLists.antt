-- What is the same at each place of a list; what stands on a list of pages with a page more at its end, or with fewer pages.
use Rattle.std.proofs.Common.{ℕ, ◌≡◌, ◌≢◌, ◌==◌, ◌||◌, ◌&&◌, inl, inr, sym, ◌∙◌, ap, arith, Bool, true, List, [], ◌∷◌, ◌++◌, length, get_or, take, drop, replicate, Option, IfSome}
use Rattle.std.specs.List.{filter, IsDistinct}
use Rattle.std.proofs.Math.Bool.{or-true}
use Rattle.std.proofs.lemmas.Bool.{and_parts, cases_lt, cases_Bool, eqb-true, ne_eqb}
use Rattle.std.proofs.lemmas.List.{get_or-replicate, get_or_past, length-replicate, append-nil, take_all, drop_all}
use Rattle.std.proofs.lemmas.Map.Views.{any-filter_same}
use Rattle.zp_model.specs.Rows.{stands_in, front}
use Rattle.zp_model.proofs.Settles.{stands_first, distinct_first, distinct_more, distinct_rest}

-- a list of equal elements gives the element at each place, and past its end where that is the default
pub replicated : {X : Type 0} (n i : ℕ) (x : X) → get_or (replicate n x) i x ≡ x
replicated n i x = elim (cases_lt i n) [
  | inl lt ↦ get_or-replicate n i x x lt
  | inr ge ↦ get_or_past (replicate n x) i x (omega (arith, length-replicate n x))
]

pub stands_end : (p : ℕ) (xs : List ℕ) → stands_in p (xs ++ p ∷ []) ≡ true
stands_end p [] = stands_first p []
stands_end p (x ∷ xs) = rw (stands_end p xs) (or-true (p == x))

pub end_others : (p h : ℕ) (xs : List ℕ) → p ≢ h → stands_in p (xs ++ h ∷ []) ≡ stands_in p xs
end_others p h [] ne = rw (ne_eqb p h ne)
end_others p h (x ∷ xs) ne = ap (λ b. (p == x) || b) (end_others p h xs ne)

pub front_stands : (xs : List ℕ) (o : Option ℕ) → o ≡ front xs → IfSome o (λ p. stands_in p xs ≡ true)
front_stands [] o e = rw e tt
front_stands (x ∷ xs) o e = rw e (stands_first x xs)

pub stands_filter : (p : ℕ → Bool) (h : ℕ) (xs : List ℕ) → stands_in h (filter p xs) ≡ (p h && stands_in h xs)
stands_filter p h xs = any-filter_same (λ x. h == x) p (p h) (λ x e. ap p (sym (eqb-true h x e))) xs

pub distinct_filter : (p : ℕ → Bool) (xs : List ℕ) → IsDistinct (λ x y. x == y) xs → IsDistinct (λ x y. x == y) (filter p xs)
distinct_filter p [] d = d
distinct_filter p (x ∷ xs) d =
    elim (cases_Bool (p x)) [
      | inl hit ↦
          rw hit (distinct_more x (filter p xs) (distinct_filter p xs (distinct_rest x xs d))
          (λ e. distinct_first x xs d (and_parts _ _ (sym (stands_filter p x xs) ∙ e)).1))
      | inr miss ↦ rw miss (distinct_filter p xs (distinct_rest x xs d))
    ]

-- as many written over a list's beginning as it has
pub written_back : {X : Type 0} (new old : List X) (n : ℕ) → length new ≡ length old → n ≡ length old → take n (new ++ drop (length new) old) ≡ new
written_back new old n e f = rw (drop_all (length new) old (omega (arith, e)), append-nil new) (take_all n new (omega (arith, e, f)))
