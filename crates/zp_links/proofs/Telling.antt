-- What the links and the ends tell of the lists that they spell.
use Rattle.std.proofs.Common.{ℕ, zero, suc, ◌≡◌, ◌<◌, ◌≤◌, ◌⊎◌, ◌↔◌, inl, inr, refl, sym, ◌∙◌, ap, arith, Bool, true, false, List, length, get_or, [], Option, Some, None, is_some, slice_get}
use Rattle.std.specs.Option.{IfSome}
use Rattle.std.proofs.lemmas.Bool.{cases_lt, cases_eq, cases_Bool, false_from_ne_true}
use Rattle.std.proofs.lemmas.List.{get_or_default, get_or_past}
use Rattle.std.proofs.lemmas.Option.{slice_get_within}
use Rattle.std.proofs.Math.ListN.{get_or-map}
use Rattle.zp_model.specs.Rows.{Rows, list_at, stands_in, IsOn, IsLoose, IsRow, state_at, after}
use Rattle.zp_table.specs.declared.entry.PageEntry.{PageEntry}
use Rattle.zp_table.specs.Entries.{entry_at, blank}
use Rattle.zp_links.specs.declared.ends.Ends.{Ends}
use Rattle.zp_links.specs.Linked.{back_at, forward_at, states_of, At, spelled, ends_at, no_ends, IsLinked, MayStand}
use Rattle.zp_links.proofs.Places.{after_is, any_at, before_has, distinct, get_some, none_at, nowhere, stands_at}
use Rattle.zp_links.proofs.Splice.{row_of}
use Rattle.zp_links.proofs.Writes.{value, linked_in, pages_in}

may_stand : (o : Option ℕ) (n : ℕ) → ((q : ℕ) → o ≡ Some q → q < n) → MayStand o n
may_stand None n h = tt
may_stand (Some q) n h = h q refl

-- a page at a place stands on the list
pub place_stands : (xs : List ℕ) (k : ℕ) (o : Option ℕ) → o ≡ slice_get xs k → IfSome o (λ q. stands_in q xs ≡ true)
place_stands xs k None e = tt
place_stands xs k (Some q) e = stands_at xs k q (sym e)

-- a page stands on one of the first n lists, or on none of them
on_below : (ls : List (List ℕ)) (p n : ℕ) → ((r : ℕ) × IsOn ls r p) ⊎ ((r : ℕ) → r < n → stands_in p (list_at ls r) ≡ false)
on_below ls p zero = inr (λ r l. absurd (omega arith))
on_below ls p (suc n) = elim (on_below ls p n) [
  | inl w ↦ inl w
  | inr none ↦ elim (cases_Bool (stands_in p (list_at ls n))) [
    | inl found ↦ inl (n, found)
    | inr absent ↦ inr (λ r l. elim (cases_eq r n) [ inl same ↦ rw same absent | inr off ↦ none r (omega arith) ])
  ]
]

module _ (t : List PageEntry) (es : List Ends) (ls : List (List ℕ)) (x : IsLinked t es ls) where
  pub within : (r p : ℕ) → IsOn ls r p → p < length t
  within r p o = let s = any_at (list_at ls r) p o in x.inside r s.0 p s.1

  -- both neighbours of a page have entries
  pub next_stands : (r p : ℕ) → IsOn ls r p → MayStand (forward_at t p) (length t)
  next_stands r p o = let s = any_at (list_at ls r) p o in may_stand (forward_at t p) (length t) (λ q w. x.inside r (suc s.0) q (sym (x.after r s.0 p s.1) ∙ w))

  pub previous_stands : (r p : ℕ) → IsOn ls r p → MayStand (back_at t p) (length t)
  previous_stands r p o =
      let s = any_at (list_at ls r) p o in
      may_stand (back_at t p) (length t) (λ q w. before_has (list_at ls r) s.0 (λ n. n < length t) (λ k n _. x.inside r k n) q (sym (x.first r s.0 p s.1) ∙ w))

  -- the place after a page's is the page after it
  after_place : (r k p : ℕ) → At ls r k p → after p (list_at ls r) ≡ slice_get (list_at ls r) (suc k)
  after_place r k p e = after_is (list_at ls r) k p e (λ j f. (x.apart r j r k p f e).1)

  pub forward_on : (r p : ℕ) → IsOn ls r p → forward_at t p ≡ after p (list_at ls r)
  forward_on r p o = let s = any_at (list_at ls r) p o in x.after r s.0 p s.1 ∙ sym (after_place r s.0 p s.1)

  pub forward_stands : (r p : ℕ) (o : Option ℕ) → IsOn ls r p → o ≡ forward_at t p → IfSome o (IsOn ls r)
  forward_stands r p o on e = let s = any_at (list_at ls r) p on in place_stands (list_at ls r) (suc s.0) o (e ∙ x.after r s.0 p s.1)

  pub back_of_next : (r p q : ℕ) → IsOn ls r p → after p (list_at ls r) ≡ Some q → back_at t q ≡ Some p
  back_of_next r p q o e = let s = any_at (list_at ls r) p o in x.first r (suc s.0) q (sym (after_place r s.0 p s.1) ∙ e) ∙ s.1

  pub unlinked : (p : ℕ) → IsLoose ls p → (back_at t p ≡ None) × (forward_at t p ≡ None)
  unlinked p none = x.loose p (nowhere ls p none)

  pub is_row : IsRow ls (length t)
  is_row = record {
    distinct = λ r. distinct (list_at ls r) (row_of t es ls x r).once;
    apart = λ r q p a b. let s = any_at (list_at ls r) p a in let u = any_at (list_at ls q) p b in (x.apart r s.0 q u.0 p s.1 u.1).0;
    inside = within;
  }

  -- a page with no entry stands nowhere
  pub past_loose : (p : ℕ) → length t ≤ p → IsLoose ls p
  past_loose p past r = false_from_ne_true _ (λ o. let lt = within r p o in omega arith)

  -- a page is on a list where a page stands before it or it is the first of a list, and only there
  pub on_by_back : (p : ℕ) (o : Option ℕ) → o ≡ back_at t p → is_some o ≡ true → (r : ℕ) × IsOn ls r p
  on_by_back p None e h = absurd cc
  on_by_back p (Some q) e h = elim (on_below ls p (length ls)) [
    | inl w ↦ w
    | inr none ↦ let gone = unlinked p (λ r. elim (cases_lt r (length ls)) [ inl lt ↦ none r lt | inr past ↦ rw (get_or_past ls r [] past) refl ]) in absurd cc
  ]

  is_first : (p : ℕ) → back_at t p ≡ None → (r k : ℕ) → At ls r k p → (ends_at es r).first ≡ Some p
  is_first p none r zero e = x.front r ∙ e
  is_first p none r (suc k) e =
      let l = slice_get_within (list_at ls r) (suc k) p e in
      let w = get_some (list_at ls r) k (omega arith) in
      let back = x.first r (suc k) p e in
      absurd cc

  pub on_by_front : (d : List Ends) (p : ℕ) (o : Option ℕ) (b : Bool) → d ≡ es → o ≡ back_at t p → is_some o ≡ false → (b ≡ true ↔ ((r : ℕ) × ((ends_at d r).first ≡ Some p))) →
      (b ≡ true ↔ ((r : ℕ) × IsOn ls r p)) × (b ≡ false → IsLoose ls p)
  on_by_front d p (Some q) b same e h found = absurd cc
  on_by_front d p None b same e h found = let front = rw same at found in (
    (λ t. let w = front.0 t in (w.0, stands_at (list_at ls w.0) 0 p (sym (x.front w.0) ∙ w.1)), λ w. let s = any_at (list_at ls w.0) p w.1 in front.1 (w.0, is_first p (sym e) w.0 s.0 s.1)),
    λ no r. none_at (list_at ls r) p (λ k a. let yes = front.1 (r, is_first p (sym e) r k a) in cc),
  )

pub row_in : (w : Rows) (t : List PageEntry) (es : List Ends) → value t es ≡ w → IsLinked t es (spelled t es) → IsRow w.lists (length w.states)
row_in w t es v x = rw (pages_in w t es v) at (is_row t es w.lists (linked_in w t es v x))

-- the ends that a loop reads
pub front_read : (es : List Ends) (i : ℕ) (e : Ends) → i < length es → e ≡ get_or es i e → (ends_at es i).first ≡ e.first
front_read es i e l h = ap (λ (d : Ends). d.first) (sym (h ∙ get_or_default es i e no_ends l))

pub front_within : (es : List Ends) (i r p : ℕ) → length es ≤ i → ((r : ℕ) → r < i → (ends_at es r).first ≡ Some p → ⊥) → (ends_at es r).first ≡ Some p → ⊥
front_within es i r p l none e = elim (cases_lt r i) [ inl lt ↦ none r lt e | inr past ↦ let n = rw (get_or_past es r no_ends (omega arith)) at e in cc ]

-- the entry of a page with these neighbours
pub entry_is : (w : Rows) (t : List PageEntry) (es : List Ends) (p : ℕ) (b f : Option ℕ) → value t es ≡ w → p < length w.states → back_at t p ≡ b → forward_at t p ≡ f →
    entry_at t p ≡ record { state = state_at w.states p; back = b; forward = f }
entry_is w t es p b f v lt back forward =
    let n = pages_in w t es v in
    let state : state_at (states_of t) p ≡ (entry_at t p).state = get_or-map (λ (e : PageEntry). e.state) t p blank in
    rw (← back, ← forward, ← v, state) refl
