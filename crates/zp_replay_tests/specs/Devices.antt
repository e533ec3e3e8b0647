-- What the devices in memory keep, and what their calls leave.
use Rattle.std.specs.Prelude.{ℕ, zero, suc, ◌≡◌, ◌+◌, ◌-◌, ◌==◌, Bool, false, List, ◌++◌, length, take, drop, min, Option, None, Some, if◌then◌else◌}

-- how many calls are good before the one that fails, where one does
abbrev pub Calls : Type 0
Calls = Option ℕ

-- the next call fails
abbrev pub is_due : Calls → Bool
is_due None = false
is_due (Some calls) = calls == 0

-- what is left of a schedule after a call
abbrev pub after_call : Calls → Calls
after_call None = None
after_call (Some calls) = if calls == 0 then None else Some (calls - 1)

-- and after so many
abbrev pub after_calls : ℕ → Calls → Calls
after_calls zero calls = calls
after_calls (suc k) calls = after_calls k (after_call calls)

-- a reader: the bytes that it has left, the most bytes of a read, when it fails, and how often it failed
pub record MemoryReader : Type 0 where
  pub rest : List ℕ
  pub piece : ℕ
  pub schedule : Calls
  pub failures : ℕ

-- a read gave n bytes into the front of a buffer
pub record Gives (old new : MemoryReader) (before after : List ℕ) (n : ℕ) : Type 0 where
  pub count : n ≡ min old.piece (min (length old.rest) (length before))
  pub buffer : after ≡ take n old.rest ++ drop n before
  pub reader : new ≡ record old { rest = drop n old.rest; schedule = after_call old.schedule }

abbrev pub failed_reader : MemoryReader → MemoryReader
failed_reader r = record r { schedule = after_call r.schedule; failures = r.failures + 1 }

-- a writer: the bytes that it took, the most bytes of a write, when it fails, and how often it failed
pub record MemoryWriter : Type 0 where
  pub bytes : List ℕ
  pub piece : ℕ
  pub schedule : Calls
  pub failures : ℕ

-- a write took the first n bytes of a piece
pub record Stores (old new : MemoryWriter) (piece : List ℕ) (n : ℕ) : Type 0 where
  pub count : n ≡ min old.piece (length piece)
  pub writer : new ≡ record old { bytes = old.bytes ++ take n piece; schedule = after_call old.schedule }

abbrev pub failed_writer : MemoryWriter → MemoryWriter
failed_writer w = record w { schedule = after_call w.schedule; failures = w.failures + 1 }
