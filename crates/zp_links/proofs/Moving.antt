-- Where pages stand when one list has changed by one page.
use Rattle.std.proofs.Common.{ℕ, ◌≡◌, ◌<◌, ◌==◌, ◌≢◌, inl, inr, refl, sym, ◌∙◌, ap, Bool, true, false, not, List, [], ◌∷◌, ◌++◌, length, replicate, eqb, eq-eqb, ne_eqb, get_or-set_same, get_or-set_other}
use Rattle.std.proofs.lemmas.Bool.{cases_lt, cases_eq, both_ways, false_from_ne_true, eqb-true}
use Rattle.std.proofs.lemmas.List.{get_or_past}
use Rattle.std.proofs.lemmas.Map.Views.{any-filter_same}
use Rattle.zp_model.specs.Rows.{Rows, with_list, list_at, stands_in, IsOn, IsLoose, IsRow, without_page}
use Rattle.zp_links.specs.Moved.{StandAsBefore}
use Rattle.zp_model.proofs.RowLists.{replicated, stands_end}

-- where the list changed by one page alone, each other page stands where it stood
moved : (w y : Rows) (r p : ℕ) (ys : List ℕ) (b : Bool) → r < length w.lists → y ≡ with_list w r ys → stands_in p ys ≡ b →
    ((q : ℕ) → q ≢ p → stands_in q ys ≡ stands_in q (list_at w.lists r)) → (stands_in p (list_at y.lists r) ≡ b) × StandAsBefore p w.lists y.lists
moved w y r p ys b lt e here others = rw e (
  rw (get_or-set_same w.lists r ys [] lt) here,
  λ r' q ne. elim (cases_eq r' r) [
    | inl same ↦ rw (same, get_or-set_same w.lists r ys [] lt) (others q ne)
    | inr off ↦ rw (get_or-set_other w.lists r r' ys [] off) refl
  ],
)

pub pushed_front : (w y : Rows) (r p : ℕ) → r < length w.lists → y ≡ with_list w r (p ∷ list_at w.lists r) → IsOn y.lists r p × StandAsBefore p w.lists y.lists
pushed_front w y r p lt e = moved w y r p _ true lt e (rw (eq-eqb p p refl) refl) (λ q ne. rw (ne_eqb q p ne) refl)

end_others : (p q : ℕ) (xs : List ℕ) → q ≢ p → stands_in q (xs ++ p ∷ []) ≡ stands_in q xs
end_others p q [] ne = rw (ne_eqb q p ne) refl
end_others p q (x ∷ xs) ne = rw (end_others p q xs ne) refl

pub pushed_back : (w y : Rows) (r p : ℕ) → r < length w.lists → y ≡ with_list w r (list_at w.lists r ++ p ∷ []) → IsOn y.lists r p × StandAsBefore p w.lists y.lists
pushed_back w y r p lt e = moved w y r p _ true lt e (stands_end p (list_at w.lists r)) (λ q ne. end_others p q (list_at w.lists r) ne)

-- a list that a page stands on is one of the row
on-below : (ls : List (List ℕ)) (r p : ℕ) → IsOn ls r p → r < length ls
on-below ls r p o = elim (cases_lt r (length ls)) [ inl lt ↦ lt | inr past ↦ absurd (both_ways _ (ap (stands_in p) (get_or_past ls r [] past)) o) ]

pub taken_off : (w y : Rows) (n r p : ℕ) → IsRow w.lists n → IsOn w.lists r p → y ≡ with_list w r (without_page p (list_at w.lists r)) →
    IsLoose y.lists p × StandAsBefore p w.lists y.lists
taken_off w y n r p row o e =
    let gone : stands_in p (without_page p (list_at w.lists r)) ≡ false = any-filter_same (eqb p) (λ x. not (x == p)) false (λ x s. ap not (eq-eqb x p (sym (eqb-true p x s)))) (list_at w.lists r) in
    let s = moved w y r p _ false (on-below w.lists r p o) e gone (λ q ne. any-filter_same (eqb q) (λ x. not (x == p)) true (λ x s. ap not (ne_eqb x p (λ d. ne (eqb-true q x s ∙ d)))) (list_at w.lists r)) in (
      λ r'. elim (cases_eq r' r) [
        | inl same ↦ rw same s.0
        | inr off ↦ rw (e, get_or-set_other w.lists r r' _ [] off) (false_from_ne_true _ (λ there. off (row.apart r' r p there o)))
      ],
      s.1,
    )

pub empty_loose : (n p : ℕ) → IsLoose (replicate n []) p
empty_loose n p r = ap (stands_in p) (replicated n r [])
