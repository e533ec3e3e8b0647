-- What was read of the input.
use Rattle.std.specs.Prelude.{ℕ, ◌≡◌, ◌≤◌, ◌<◌, List, length, take, Option, IfSome}
use Rattle.std.specs.Io.KnownBytes.{Consumes, IsAtEnd}
use Rattle.zp_replay.specs.declared.input.TheConstants.{INPUT_LIMIT}

-- the first n bytes of a buffer were read, n below its length only where the reader has none left
pub record IsFilled (old new : Option (List ℕ)) (buffer : List ℕ) (n : ℕ) : Type 0 where
  pub within : n ≤ length buffer
  pub front : Consumes old new (take n buffer)
  pub end : n < length buffer → IsAtEnd new

-- these bytes were read, to the reader's end or up to the limit
pub record IsRead (old new : Option (List ℕ)) (text : List ℕ) : Type 0 where
  pub within : length text ≤ INPUT_LIMIT
  pub front : Consumes old new text
  pub end : length text < INPUT_LIMIT → IsAtEnd new

-- a beginning of what the reader had was read, of n bytes at most
pub record IsReadWithin (had left : Option (List ℕ)) (n : ℕ) : Type 0 where
  pub text : List ℕ
  pub within : length text ≤ n
  pub front : Consumes had left text

-- this text is all that the reader had, where it tells that
abbrev pub IsAllOf : Option (List ℕ) → List ℕ → Type 0
IsAllOf had text = IfSome had (λ bytes. bytes ≡ text)

-- this text is the input: all that the reader had, of which as much as the limit allows was read
pub record IsInput (had left : Option (List ℕ)) (text : List ℕ) : Type 0 where
  pub all : IsAllOf had text
  pub read : Consumes had left (take INPUT_LIMIT text)
