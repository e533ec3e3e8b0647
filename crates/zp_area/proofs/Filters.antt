-- Filters of lists of heads.
use Rattle.std.proofs.Common.{ℕ, ◌≡◌, inl, inr, refl, sym, ◌∙◌, ap, Bool, true, List, [], ◌∷◌, ◌&&◌, cond}
use Rattle.std.specs.List.{filter}
use Rattle.std.proofs.lemmas.Bool.{and_from, and_parts, cases_Bool}
use Rattle.zp_model.specs.Rows.{stands_in}
use Rattle.zp_model.proofs.Settles.{stands_first, stands_later}
use Rattle.zp_laws.proofs.Settling.{stands-filter}

-- two tests that agree on a list keep the same of it
pub filter_same : (p q : ℕ → Bool) (xs : List ℕ) → ((x : ℕ) → stands_in x xs ≡ true → p x ≡ q x) → filter p xs ≡ filter q xs
filter_same p q [] f = refl
filter_same p q (x ∷ xs) f = rw (f x (stands_first x xs)) (ap (λ ys. cond (q x) (x ∷ ys) ys) (filter_same p q xs (λ y e. f y (stands_later y x xs e))))

pub filter_twice : (p q : ℕ → Bool) (xs : List ℕ) → filter p (filter q xs) ≡ filter (λ x. q x && p x) xs
filter_twice p q [] = refl
filter_twice p q (x ∷ xs) =
    elim (cases_Bool (q x)) [
      | inl t ↦ elim (cases_Bool (p x)) [ inl u ↦ rw (t, u) (ap (λ ys. x ∷ ys) (filter_twice p q xs)) | inr n ↦ rw (t, n) (filter_twice p q xs) ]
      | inr n ↦ rw n (filter_twice p q xs)
    ]

-- what a filter keeps
pub stands_filter-to : (p : ℕ → Bool) (h : ℕ) (xs : List ℕ) → stands_in h (filter p xs) ≡ true → (stands_in h xs ≡ true) × (p h ≡ true)
stands_filter-to p h xs e = let a = and_parts (p h) (stands_in h xs) (sym (stands-filter p h xs) ∙ e) in (a.1, a.0)

pub stands_filter-from : (p : ℕ → Bool) (h : ℕ) (xs : List ℕ) → stands_in h xs ≡ true → p h ≡ true → stands_in h (filter p xs) ≡ true
stands_filter-from p h xs e t = stands-filter p h xs ∙ and_from _ _ t e
