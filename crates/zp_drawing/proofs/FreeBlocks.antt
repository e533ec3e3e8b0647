-- The largest free block of a row that gets one page more.
use Rattle.std.proofs.Common.{ℕ, ◌≡◌, max, arith, subst, ⊎_elim, List, [], ◌∷◌, ◌++◌, Contains, IfNone, IfSome, Option, Some, None}
use Rattle.std.proofs.lemmas.List.Elements.{Contains-push, Contains-append_left, Contains-push_cases}
use Rattle.std.proofs.lemmas.Bool.{cases_lt}
use Rattle.zp_view.specs.declared.page_state.PageState.{PageState}
use Rattle.zp_view.specs.declared.page_state.PageState.TheVariants.{Free}
use Rattle.zp_drawing.specs.Maps.{HasNoFree, IsLargestFree, larger}

-- the page is in use
abbrev pub IsNotFree : PageState → Type 0
IsNotFree s = (k : ℕ) → s ≡ Free k → ⊥

pub HasNoFree-used : (row : List PageState) (s : PageState) → IsNotFree s → HasNoFree row → HasNoFree (row ++ s ∷ [])
HasNoFree-used row s used none k has = ⊎_elim (none k) (used k) (Contains-push_cases row s (Free k) has)

pub IsLargestFree-used : (row : List PageState) (s : PageState) (j : ℕ) → IsNotFree s → IsLargestFree row j → IsLargestFree (row ++ s ∷ []) j
IsLargestFree-used row s j used was = record {
  has = Contains-append_left row (s ∷ []) (Free j) was.has;
  largest = λ k has. ⊎_elim (was.largest k) (λ e. absurd (used k e)) (Contains-push_cases row s (Free k) has);
}

pub IsLargestFree-first : (row : List PageState) (k : ℕ) → HasNoFree row → IsLargestFree (row ++ Free k ∷ []) k
IsLargestFree-first row k none = record {
  has = Contains-push row (Free k);
  largest = λ j has. ⊎_elim (λ h. absurd (none j h)) (λ e. let same : k ≡ j = cc in omega arith) (Contains-push_cases row (Free k) (Free j) has);
}

pub IsLargestFree-larger : (row : List PageState) (j k : ℕ) → IsLargestFree row j → IsLargestFree (row ++ Free k ∷ []) (max j k)
IsLargestFree-larger row j k was = record {
  has =
      let Has : ℕ → Type 0 = λ n. Contains (row ++ Free k ∷ []) (Free n) in
      ⊎_elim
      (λ lt. let is : k ≡ max j k = omega arith in subst Has is (Contains-push row (Free k)))
      (λ le. let is : j ≡ max j k = omega arith in subst Has is (Contains-append_left row (Free k ∷ []) (Free j) was.has))
      (cases_lt j k);
  largest = λ i has.
      ⊎_elim (λ h. omega (arith, was.largest i h)) (λ e. let same : k ≡ i = cc in omega arith) (Contains-push_cases row (Free k) (Free i) has);
}

pub IsLargestFree-free : (row : List PageState) (o : Option ℕ) (k : ℕ) → IfNone o (HasNoFree row) → IfSome o (IsLargestFree row)
    → IsLargestFree (row ++ Free k ∷ []) (larger o k)
IsLargestFree-free row None k none some = IsLargestFree-first row k none
IsLargestFree-free row (Some j) k none some = IsLargestFree-larger row j k some

-- what is told of a row: its largest free block, or that it has none
pub record IsTold (row : List PageState) (o : Option ℕ) : Type 0 where
  pub none : IfNone o (HasNoFree row)
  pub some : IfSome o (IsLargestFree row)

pub IsTold-used : (row : List PageState) (s : PageState) (o : Option ℕ) → IsNotFree s → IsTold row o → IsTold (row ++ s ∷ []) o
IsTold-used row s None used was = record { none = HasNoFree-used row s used was.none; some = was.some }
IsTold-used row s (Some j) used was = record { none = was.none; some = IsLargestFree-used row s j used was.some }

pub IsTold-free : (row : List PageState) (o : Option ℕ) (k : ℕ) → IsTold row o → IsTold (row ++ Free k ∷ []) (Some (larger o k))
IsTold-free row o k was = record { none = tt; some = IsLargestFree-free row o k was.none was.some }
