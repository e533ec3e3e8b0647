-- A row of lists of pages in which no page stands twice, in one list or in two, with what is noted of each page.
use Rattle.std.specs.Prelude.{ℕ, zero, suc, ◌+◌, ◌≡◌, ◌<◌, ◌==◌, Bool, true, false, not, List, [], ◌∷◌, slice_index_or, slice_set, filter, Option, None, Some, cond}
use Rattle.std.specs.List.{list_any, IsDistinct}
use Rattle.zp_model.specs.declared.state.State.{State}
use Rattle.zp_model.specs.declared.state.State.TheVariants.{Tail}

pub record Rows : Type 0 where
  -- the lists, the front of each first
  pub lists : List (List ℕ)
  -- for each page what is noted of it
  pub states : List State

abbrev pub list_at : List (List ℕ) → ℕ → List ℕ
list_at ls r = slice_index_or ls r []

abbrev pub state_at : List State → ℕ → State
state_at ss p = slice_index_or ss p Tail

-- whether a page stands on a list
abbrev pub stands_in : ℕ → List ℕ → Bool
stands_in p xs = list_any (λ x. p == x) xs

-- page p stands on list r
abbrev pub IsOn : List (List ℕ) → ℕ → ℕ → Type 0
IsOn ls r p = stands_in p (list_at ls r) ≡ true

-- page p stands on no list
abbrev pub IsLoose : List (List ℕ) → ℕ → Type 0
IsLoose ls p = (r : ℕ) → stands_in p (list_at ls r) ≡ false

-- no page stands twice, in one list or in two, and each page that stands is one of the first n
pub record IsRow (ls : List (List ℕ)) (n : ℕ) : Type 0 where
  pub distinct : (r : ℕ) → IsDistinct (λ x y. x == y) (list_at ls r)
  pub apart : (r q p : ℕ) → IsOn ls r p → IsOn ls q p → r ≡ q
  pub inside : (r p : ℕ) → IsOn ls r p → p < n

-- the row with another list at r
abbrev pub with_list : Rows → ℕ → List ℕ → Rows
with_list w r xs = record w { lists = slice_set w.lists r xs }

-- the row with another note of page p
abbrev pub with_state : Rows → ℕ → State → Rows
with_state w p s = record w { states = slice_set w.states p s }

-- a list, as what is noted of each page or a table, with the same value at so many places from h on
abbrev pub with_run : {X : Type 0} → List X → ℕ → ℕ → X → List X
with_run xs h zero x = xs
with_run xs h (suc n) x = with_run (slice_set xs h x) (h + 1) n x

-- a list without a page
abbrev pub without_page : ℕ → List ℕ → List ℕ
without_page p xs = filter (λ x. not (x == p)) xs

-- the page in front of a list
abbrev pub front : List ℕ → Option ℕ
front [] = None
front (x ∷ xs) = Some x

-- all but the page in front
abbrev pub rest : List ℕ → List ℕ
rest [] = []
rest (x ∷ xs) = xs

-- the page after page p of a list
abbrev pub after : ℕ → List ℕ → Option ℕ
after p [] = None
after p (x ∷ xs) = cond (x == p) (front xs) (after p xs)
