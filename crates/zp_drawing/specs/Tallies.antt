-- How many pages of each kind the cells of a row have, as this profile counts them: cell by cell a count for each kind, in the order of their
-- numbers.
use Rattle.std.specs.Prelude.{ℕ, ◌≤◌, ◌<◌, ◌+◌, ◌*◌, ◌-◌, ◌^◌, min, List, length, slice_index_or, slice_range, slice_set}
use Rattle.zp_drawing.specs.declared.cells.TheConstants.{KINDS}
use Rattle.zp_drawing.specs.declared.cells.Kind.{Kind}
use Rattle.zp_drawing.specs.Kinds.{kind_number}

-- where the count of a kind in a cell stands
abbrev pub place_of : ℕ → Kind → ℕ
place_of cell kind = cell * KINDS + kind_number kind

-- how many pages of a kind a cell has
abbrev pub count_of : List ℕ → ℕ → Kind → ℕ
count_of counts cell kind = slice_index_or counts (place_of cell kind) 0

-- the counts with so many pages more of a kind in a cell, up to the largest number of 32 bits, and every other count as it was
abbrev pub counts_with : List ℕ → ℕ → Kind → ℕ → List ℕ
counts_with counts cell kind pages = slice_set counts (place_of cell kind) (min (count_of counts cell kind + pages) (2 ^ 32 - 1))

-- the counts of a cell by the numbers of the kinds
abbrev pub counts_in : List ℕ → ℕ → List ℕ
counts_in counts cell = slice_range counts (cell * KINDS) (cell * KINDS + KINDS)

-- none of the counts is larger than the one at this place, and those before it are smaller
pub record IsFirstMost (counts : List ℕ) (best : ℕ) : Type 0 where
  pub most : (n : ℕ) → n < length counts → slice_index_or counts n 0 ≤ slice_index_or counts best 0
  pub first : (n : ℕ) → n < best → slice_index_or counts n 0 < slice_index_or counts best 0
