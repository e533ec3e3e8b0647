-- What is read off a reader, line by line.
use Rattle.std.specs.Prelude.{ℕ, ◌≡◌, ◌≢◌, ◌+◌, ◌-◌, ◌<◌, ◌≤◌, ◌^◌, ◌++◌, ◌⊎◌, List, [], ◌∷◌, length, take, drop, min, nat_le, Bool, false, Option, None, Some}
use Rattle.std.specs.List.{AllByRecursion}
use Rattle.std.specs.Io.KnownBytes.{Consumes, IsAtEnd}
use Rattle.zp_events.specs.declared.reading.TheConstants.{LONGEST_LINE}

abbrev pub line_feed : ℕ
line_feed = 10

abbrev pub HasNoLineFeed : List ℕ → Type 0
HasNoLineFeed bytes = AllByRecursion (λ b. b ≢ line_feed) bytes

-- the lines, one after another, each with its line feed
unfoldable pub joined : List (List ℕ) → List ℕ
joined [] = []
joined (line ∷ lines) = line ++ line_feed ∷ joined lines

-- where a reading stands: what was read and is not passed on yet, what the reader has left, where it tells that, and how many lines were passed
pub record Spot : Type 0 where
  pub kept : List ℕ
  pub left : Option (List ℕ)
  pub passed : ℕ

abbrev pub spot : List ℕ → Option (List ℕ) → ℕ → Spot
spot kept left passed = record { kept = kept; left = left; passed = passed }

-- more was read off the reader, and is kept behind what was; no line was passed
pub record IsReadOn (from to : Spot) : Type 0 where
  pub read : List ℕ
  pub front : Consumes from.left to.left read
  pub behind : to.kept ≡ from.kept ++ read
  pub none : to.passed ≡ from.passed

-- what was kept, and then what was read, are these lines, each with its line feed, and then what is kept still
pub record ArePassed (from : Spot) (lines : List (List ℕ)) (to : Spot) : Type 0 where
  pub read : List ℕ
  pub front : Consumes from.left to.left read
  pub whole : AllByRecursion HasNoLineFeed lines
  pub written : from.kept ++ read ≡ joined lines ++ to.kept
  pub number : to.passed ≡ from.passed + length lines

-- the next line ends in a line feed, or where the reader has no more
abbrev pub IsEnded : List ℕ → Spot → Type 0
IsEnded line at = ((more : List ℕ) × (at.kept ≡ line ++ line_feed ∷ more)) ⊎ ((at.kept ≡ line) × (0 < length line) × IsAtEnd at.left)

-- this line, without its line feed, comes next
pub record IsNextLine (at : Spot) (line : List ℕ) : Type 0 where
  pub no_line_feed : HasNoLineFeed line
  pub within : length line ≤ LONGEST_LINE
  pub ended : IsEnded line at

-- no line is left
pub record IsOver (at : Spot) : Type 0 where
  pub none : at.kept ≡ []
  pub end : IsAtEnd at.left

-- the next line is too long
pub record IsTooLong (kept : List ℕ) : Type 0 where
  pub long : LONGEST_LINE < length kept
  pub no_line_feed : HasNoLineFeed (take (LONGEST_LINE + 1) kept)

-- the next line was found, and is so long
pub record IsAhead (at : Spot) (ahead : Option ℕ) : Type 0 where
  pub line : List ℕ
  pub next : IsNextLine at line
  pub found : ahead ≡ Some (length line)

-- the line that was found, without its line feed
abbrev pub line_ahead : Option ℕ → List ℕ → List ℕ
line_ahead None kept = []
line_ahead (Some n) kept = take n kept

-- whether it has no line feed
abbrev pub is_unended : Option ℕ → List ℕ → Bool
is_unended None kept = false
is_unended (Some n) kept = nat_le (length kept) n

-- what stands behind it
abbrev pub behind_line : Option ℕ → List ℕ → List ℕ
behind_line None kept = kept
behind_line (Some n) kept = drop (n + 1) kept

-- how many lines were passed with it; a count stays at the largest number
abbrev pub passed_with : Option ℕ → ℕ → ℕ
passed_with None passed = passed
passed_with (Some n) passed = min (passed + 1) (2 ^ 64 - 1)
