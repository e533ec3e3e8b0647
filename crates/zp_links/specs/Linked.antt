-- When the links of a table and the ends of the lists spell a row of lists.
use Rattle.std.specs.Prelude.{ℕ, zero, suc, ◌≡◌, ◌<◌, ◌≤◌, List, [], ◌∷◌, length, map, slice_index_or, slice_get, Option, None, Some}
use Rattle.zp_model.specs.declared.constants.TheConstants.{MAX_PAGES}
use Rattle.zp_model.specs.declared.state.State.{State}
use Rattle.zp_model.specs.Rows.{Rows, list_at, state_at}
use Rattle.zp_table.specs.declared.entry.PageEntry.{PageEntry}
use Rattle.zp_table.specs.Entries.{entry_at, with_back_at, with_forward_at}
use Rattle.zp_links.specs.declared.ends.Ends.{Ends}

abbrev pub states_of : List PageEntry → List State
states_of t = map (λ (e : PageEntry). e.state) t

abbrev pub back_at : List PageEntry → ℕ → Option ℕ
back_at t p = (entry_at t p).back

abbrev pub forward_at : List PageEntry → ℕ → Option ℕ
forward_at t p = (entry_at t p).forward

-- a neighbour, if there is one, has an entry
abbrev pub MayStand : Option ℕ → ℕ → Type 0
MayStand None n = Unit {0}
MayStand (Some q) n = q < n

-- the table with another back link, or forward link, of a neighbour, if there is one
abbrev pub with_back_of : List PageEntry → Option ℕ → Option ℕ → List PageEntry
with_back_of t None b = t
with_back_of t (Some q) b = with_back_at t q b

abbrev pub with_forward_of : List PageEntry → Option ℕ → Option ℕ → List PageEntry
with_forward_of t None f = t
with_forward_of t (Some q) f = with_forward_at t q f

-- an end of a list: one page where there is no neighbour on that side, and else another
abbrev pub end_if : Option ℕ → Option ℕ → Option ℕ → Option ℕ
end_if None there other = there
end_if (Some q) there other = other

abbrev pub no_ends : Ends
no_ends = record { first = None; last = None; len = 0 }

abbrev pub ends_at : List Ends → ℕ → Ends
ends_at es r = slice_index_or es r no_ends

-- p stands on list r, at place k
abbrev pub At : List (List ℕ) → ℕ → ℕ → ℕ → Type 0
At ls r k p = slice_get (list_at ls r) k ≡ Some p

-- p stands nowhere
abbrev pub StandsNowhere : List (List ℕ) → ℕ → Type 0
StandsNowhere ls p = (r k : ℕ) → At ls r k p → ⊥

-- what stands before place k
abbrev pub before : List ℕ → ℕ → Option ℕ
before xs zero = None
before xs (suc k) = slice_get xs k

-- the entry of page p, which stands at place k of list r, and that of a page that stands nowhere
abbrev pub entry_in : Rows → ℕ → ℕ → ℕ → PageEntry
entry_in w r k p = record { state = state_at w.states p; back = before (list_at w.lists r) k; forward = slice_get (list_at w.lists r) (suc k) }

abbrev pub loose_entry : State → PageEntry
loose_entry s = record { state = s; back = None; forward = None }

-- the pages from o on, at most n of them, as the forward links name them
abbrev pub walk : ℕ → List PageEntry → Option ℕ → List ℕ
walk zero t o = []
walk (suc n) t None = []
walk (suc n) t (Some p) = p ∷ walk n t (forward_at t p)

abbrev pub spelled : List PageEntry → List Ends → List (List ℕ)
spelled t es = map (λ (e : Ends). walk e.len t e.first) es

-- the table and the ends spell the lists
pub record IsLinked (t : List PageEntry) (es : List Ends) (ls : List (List ℕ)) : Type 0 where
  pub rows : length ls ≡ length es
  pub pages : length t ≤ MAX_PAGES
  pub front : (r : ℕ) → (ends_at es r).first ≡ slice_get (list_at ls r) 0
  pub back : (r : ℕ) → (ends_at es r).last ≡ before (list_at ls r) (length (list_at ls r))
  pub count : (r : ℕ) → (ends_at es r).len ≡ length (list_at ls r)
  pub inside : (r k p : ℕ) → At ls r k p → p < length t
  pub after : (r k p : ℕ) → At ls r k p → forward_at t p ≡ slice_get (list_at ls r) (suc k)
  pub first : (r k p : ℕ) → At ls r k p → back_at t p ≡ before (list_at ls r) k
  pub apart : (r k r' k' p : ℕ) → At ls r k p → At ls r' k' p → (r ≡ r') × (k ≡ k')
  pub loose : (p : ℕ) → StandsNowhere ls p → (back_at t p ≡ None) × (forward_at t p ≡ None)
