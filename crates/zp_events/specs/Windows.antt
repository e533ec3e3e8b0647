-- What a window keeps of a stream.
use Rattle.std.specs.Prelude.{ℕ, ◌≡◌, ◌++◌, List, length, Option}
use Rattle.std.specs.Io.KnownBytes.{Consumes, IsAtEnd}

-- n bytes were read off a reader, and are kept behind those before; none, where none is left
pub record IsFilled (old new : List ℕ) (n : ℕ) (had left : Option (List ℕ)) : Type 0 where
  pub read : List ℕ
  pub front : Consumes had left read
  pub behind : new ≡ old ++ read
  pub count : n ≡ length read
  pub end : n ≡ 0 → IsAtEnd left
