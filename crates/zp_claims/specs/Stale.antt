-- The pageblocks that have changed since they were looked at.
use Rattle.std.specs.Prelude.{ℕ, ◌≡◌, ◌≤◌, ◌<◌, Bool, true, false, List, length, slice_index_or, slice_set, Option, None, Some}
use Rattle.std.specs.List.{All}
use Rattle.zp_model.specs.declared.constants.TheConstants.{MAX_PAGES}
use Rattle.zp_model.specs.Rows.{stands_in}

-- what contracts see of the set: for each pageblock whether it is in the set, and how many entries wait
pub record Stale : Type 0 where
  pub marks : List Bool
  pub waiting : ℕ

-- whether pageblock b is in the set; past the last one none is
abbrev pub is_marked : List Bool → ℕ → Bool
is_marked marks b = slice_index_or marks b false

-- the set without a pageblock, where one is given
abbrev pub cleared : List Bool → Option ℕ → List Bool
cleared marks None = marks
cleared marks (Some b) = slice_set marks b false

-- each pageblock in the set waits, and each entry that waits is a pageblock; an entry may wait twice, or no longer be in the set
pub record IsWaiting (marks : List Bool) (waiting : List ℕ) : Type 0 where
  pub short : length marks ≤ MAX_PAGES
  pub inside : All (λ b. b < length marks) waiting
  pub each : (b : ℕ) → is_marked marks b ≡ true → stands_in b waiting ≡ true
