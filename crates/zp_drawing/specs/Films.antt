-- The film of a trace, row by row: each row of cells is put down with those that are alike. It is of this profile.
use Rattle.std.specs.Prelude.{ℕ, ◌≡◌, ◌≤◌, ◌<◌, ◌+◌, ◌-◌, ◌^◌, min, List, length, slice_index_or, vec_len}
use Rattle.zp_drawing.specs.declared.cells.Tally.{Tally}
use Rattle.zp_drawing.specs.declared.films.Film.{Film}
use Rattle.zp_drawing.specs.Tallies.{IsFirstMost, counts_in}

-- the number is that of the kind that most pages of a cell have; 0 where there is no such cell
pub record IsKindOfMost (tally : Tally) (cell number : ℕ) : Type 0 where
  pub most : cell < tally.cells → IsFirstMost (counts_in tally.counts.items cell) number
  pub past : tally.cells ≤ cell → number ≡ 0

-- the numbers of the kinds of all cells of a row
abbrev pub IsRowOf : Tally → List ℕ → Type 0
IsRowOf tally row = (cell : ℕ) → cell < length row → IsKindOfMost tally cell (slice_index_or row cell 0)

-- the row that is seen is the last one again, which has been seen at least once
pub record IsSeenAgain (old : Film) (row : List ℕ) : Type 0 where
  pub seen : 0 < old.alike
  pub same : row ≡ old.shown.items

-- how many rows come to so many, up to the largest number of 64 bits
abbrev pub rows_with : ℕ → ℕ → ℕ
rows_with rows more = min (rows + more) (2 ^ 64 - 1)

-- a row more of those that were seen last
pub record IsOneMore (old new : Film) : Type 0 where
  pub alike : new.alike ≡ rows_with old.alike 1
  pub top : new.top ≡ old.top

-- the first row of others, below those that were seen before
pub record IsFirstOfOthers (old new : Film) : Type 0 where
  pub alike : new.alike ≡ 1
  pub top : new.top ≡ rows_with old.top old.alike

-- the strips, and the size of a cell, are what they were
pub record KeepsPicture (old new : Film) : Type 0 where
  pub strips : new.strips ≡ old.strips
  pub width : new.width ≡ old.width
  pub height : new.height ≡ old.height

-- the film has a row more, which is the tally's
pub record IsPushed (old new : Film) (tally : Tally) : Type 0 where
  pub row : IsRowOf tally new.shown.items
  pub cells : vec_len new.shown ≡ vec_len old.shown
  pub picture : KeepsPicture old new
  pub again : IsSeenAgain old new.shown.items → IsOneMore old new
  pub another : ¬ (IsSeenAgain old new.shown.items) → IsFirstOfOthers old new

-- the rows that were seen are what they were
pub record IsSeenAsBefore (old new : Film) : Type 0 where
  pub shown : new.shown ≡ old.shown
  pub alike : new.alike ≡ old.alike
  pub top : new.top ≡ old.top
  pub picture : KeepsPicture old new
