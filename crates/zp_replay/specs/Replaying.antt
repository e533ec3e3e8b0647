-- What a replay has read and written when it ends.
use Rattle.std.specs.Prelude.{ℕ, ◌≡◌, ◌<◌, All, List, length, Option}
use Rattle.zp_trace.specs.declared.trace.Trace.{Trace}
use Rattle.zp_trace.specs.Grammar.{IsBeginning, IsCommandOf, IsHeader, IsTraceText, IsBadLine, lines_of}
use Rattle.zp_streams.specs.Streams.{IsWritten, IsBegun}
use Rattle.zp_share.specs.Commands.{zone_at}
use Rattle.zp_share.specs.Gathering.{AddsUp, owns_at}
use Rattle.zp_office.specs.Offices.{OfficeState, crew_in}
use Rattle.zp_replay.specs.declared.input.TheConstants.{INPUT_LIMIT}
use Rattle.zp_replay.specs.declared.traces.Input.{Input}
use Rattle.zp_replay.specs.Inputs.{IsInput, IsReadWithin}
use Rattle.zp_replay.specs.Output.{bad_line}

-- a trace that was parsed: its lines stand in an order that the grammar allows
pub record IsParsed (t : Trace) : Type 0 where
  pub lines : IsBeginning (lines_of t)
  pub header : IsHeader t.header
  pub commands : All (IsCommandOf t.header) t.commands

-- each page of each zone lies in one place, and so the totals of each zone add up to its pages
abbrev pub AddUp : OfficeState → Type 0
AddUp o = (i : ℕ) → i < length o.zones → AddsUp (zone_at o.zones i).plain (owns_at (crew_in o).shares i)

-- the input was the text of this trace
pub record IsTraceRead (had left : Option (List ℕ)) (t : Trace) : Type 0 where
  pub text : List ℕ
  pub input : IsInput had left text
  pub grammar : IsTraceText text t

-- the input was a text with this bad line, and its number was written
pub record IsRefusedAt (had left old new : Option (List ℕ)) (n : ℕ) : Type 0 where
  pub text : List ℕ
  pub input : IsInput had left text
  pub grammar : IsBadLine text n
  pub written : IsWritten old new (bad_line n)

-- of the number of the input's bad line a beginning was written
pub record IsBadLineCut (had left old new : Option (List ℕ)) : Type 0 where
  pub text : List ℕ
  pub input : IsInput had left text
  pub number : ℕ
  pub grammar : IsBadLine text number
  pub begun : IsBegun old new (bad_line number)

-- a trace, with nothing written, or a text with a bad line, and its number written
abbrev pub IsInputOf : Option (List ℕ) → Option (List ℕ) → Option (List ℕ) → Option (List ℕ) → Input → Type 0
IsInputOf had left old new (Input.Trace t) = IsTraceRead had left t × IsParsed t × (new ≡ old)
IsInputOf had left old new (Input.BadLine n) = IsRefusedAt had left old new n

-- no more than the limit was read, and nothing was written
pub record IsUnanswered (had left old new : Option (List ℕ)) : Type 0 where
  pub read : IsReadWithin had left INPUT_LIMIT
  pub silent : new ≡ old
