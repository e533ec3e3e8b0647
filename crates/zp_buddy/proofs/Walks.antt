-- Walking a list from its front.
use Rattle.std.proofs.Common.{ℕ, ◌≡◌, ◌==◌, inl, inr, refl, sym, ap, true, cond, List, [], ◌∷◌, Option, Some, None, IfSome}
use Rattle.std.specs.List.{IsDistinct}
use Rattle.std.proofs.lemmas.Bool.{cases_eq, eq-eqb, ne_eqb, false≢true}
use Rattle.zp_model.specs.Rows.{stands_in, front, after}
use Rattle.zp_model.proofs.Settles.{stands_first, stands_later, stands_cases, distinct_first, distinct_rest}

-- a list from a page on
abbrev pub list_from : Option ℕ → List ℕ → List ℕ
list_from None xs = []
list_from (Some p) [] = []
list_from (Some p) (x ∷ xs) = cond (x == p) (x ∷ xs) (list_from (Some p) xs)

-- a page, if it is one, stands on the list
abbrev pub IsNext : Option ℕ → List ℕ → Type 0
IsNext o xs = IfSome o (λ p. stands_in p xs ≡ true)

pub next_front : (xs : List ℕ) → IsNext (front xs) xs
next_front [] = tt
next_front (x ∷ xs) = stands_first x xs

pub from_front : (xs : List ℕ) → list_from (front xs) xs ≡ xs
from_front [] = refl
from_front (x ∷ xs) = rw (eq-eqb x x refl) refl

next_later : (x : ℕ) (o : Option ℕ) (xs : List ℕ) → IsNext o xs → IsNext o (x ∷ xs)
next_later x None xs n = tt
next_later x (Some p) xs n = stands_later p x xs n

pub next_after : (p : ℕ) (xs : List ℕ) → IsNext (after p xs) xs
next_after p [] = tt
next_after p (x ∷ xs) =
    elim (cases_eq x p) [
      | inl same ↦ rw (eq-eqb x p same) (next_later x (front xs) xs (next_front xs))
      | inr ne ↦ rw (ne_eqb x p ne) (next_later x (after p xs) xs (next_after p xs))
    ]

-- the list from a page that is not in front
from_later : (x : ℕ) (o : Option ℕ) (xs : List ℕ) → IsNext o xs → (stands_in x xs ≡ true → ⊥) → list_from o (x ∷ xs) ≡ list_from o xs
from_later x None xs n out = refl
from_later x (Some p) xs n out = rw (ne_eqb x p (λ e. out (rw e n))) refl

-- a page, and the list from the page after it on
pub from_after : (p : ℕ) (xs : List ℕ) → IsDistinct (λ x y. x == y) xs → stands_in p xs ≡ true → list_from (Some p) xs ≡ p ∷ list_from (after p xs) xs
from_after p [] d e = absurd (false≢true e)
from_after p (x ∷ xs) d e =
    elim (cases_eq x p) [
      | inl same ↦ rw (eq-eqb x p same, from_later x (front xs) xs (next_front xs) (distinct_first x xs d), from_front xs) (ap (λ q. q ∷ xs) same)
      | inr ne ↦
          let on : stands_in p xs ≡ true = elim (stands_cases p x xs e) [ inl same ↦ absurd (ne (sym same)) | inr later ↦ later ] in
          rw (ne_eqb x p ne, from_later x (after p xs) xs (next_after p xs) (distinct_first x xs d)) (from_after p xs (distinct_rest x xs d) on)
    ]
