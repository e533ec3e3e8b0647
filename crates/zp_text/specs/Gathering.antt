-- Text that is held back, to be written in longer pieces.
use Rattle.std.specs.Prelude.{ℕ, ◌≡◌, ◌<◌, ◌≤◌, ◌+◌, ◌-◌, List, ◌++◌, length, slice_index, take, Option}
use Rattle.zp_trace.specs.Spelling.{line_feed}
use Rattle.zp_streams.specs.Streams.{IsWritten}

-- of what was held before, with this text behind it, a beginning was written, and the rest is held
pub record IsGathered (old new : Option (List ℕ)) (before after text : List ℕ) : Type 0 where
  pub taken : List ℕ
  pub written : IsWritten old new taken
  pub held : taken ++ after ≡ before ++ text

-- a line of a text begins at this place: in front, or behind a line feed
abbrev pub IsLineStart : List ℕ → ℕ → Type 0
IsLineStart text k = 0 < k → slice_index text (k - 1) ≡ line_feed

-- a writer that had failed so often before, and so often after, took a beginning of a text: where that is whole lines, and more than one
-- is left, it failed twice at least, at what was left and at the next line
pub record IsStopped (old new : Option (List ℕ)) (before after : ℕ) (text : List ℕ) : Type 0 where
  pub taken : ℕ
  pub within : taken ≤ length text
  pub written : IsWritten old new (take taken text)
  pub refused : IsLineStart text taken → (k : ℕ) → taken < k → k < length text → IsLineStart text k → before + 1 < after
