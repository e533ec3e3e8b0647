-- A writer in memory with room for a number of bytes.
use Rattle.std.specs.Prelude.{ℕ, ◌≡◌, ◌+◌, ◌-◌, ◌/◌, ◌++◌, ◌∷◌, [], List, cond, leb, length, min, take}
use Rattle.zp_replay_tests.specs.declared.rooms.RoomTaking.{RoomTaking}
use Rattle.zp_replay_tests.specs.declared.rooms.RoomTaking.TheVariants.{Whole, Half}

-- how many bytes are taken of a piece of so many, where there is room for so many
abbrev pub taken : RoomTaking → ℕ → ℕ → ℕ
taken Whole room piece = cond (leb piece room) piece 0
taken Half room piece = min room (piece - piece / 2)

-- the bytes that it took, the length of each piece that it was asked to take, and the room that is left
pub record RoomState : Type 0 where
  pub bytes : List ℕ
  pub asked : List ℕ
  pub room : ℕ
  pub taking : RoomTaking
  pub failures : ℕ

-- a write took the first n bytes of a piece, as many as are taken where there is that room
pub record StoresWithin (old new : RoomState) (piece : List ℕ) (n : ℕ) : Type 0 where
  pub count : n ≡ taken old.taking old.room (length piece)
  pub writer : new ≡ record old { bytes = old.bytes ++ take n piece; asked = old.asked ++ length piece ∷ []; room = old.room - n }
