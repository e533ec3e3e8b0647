-- What a reader of a board has, beside a lock that it does not enter, and what it sees (this profile).
use Rattle.std.specs.Prelude.{◌≡◌, ◌<◌, ◌≤◌, [], length, Option, None, Some}
use mathlib.Core.List.{IsPrefix}
use Rattle.zp_model.specs.Run.{IsHistory}
use Rattle.zp_counts.specs.CountBoards.{BoardState, CountsSeen, IsFreshRead, IsReadingOf, last_reading}
use Rattle.zp_counts.specs.declared.reading.Reading.{Reading}
use Rattle.zp_share.specs.Shares.{key_of}
use Rattle.zp_zone.specs.Seats.{ZoneState}
use Rattle.zp_gate.specs.Boards.{IsCountsOf, IsPublished}
use Rattle.zp_gate.specs.GatedZones.{GateKey}

-- what never changes behind the lock, and what the reader has seen of the board
pub record ReaderState : Type 0 where
  pub key : GateKey
  pub reader : CountsSeen

-- there is a board, and the reader is one of it
abbrev pub IsReaderOf : Option BoardState → CountsSeen → Type 0
IsReaderOf None r = ⊥
IsReaderOf (Some b) r = r.tie ≡ b.tie

-- the zone is the one with the reader's key, and the reader has seen all that was published of it: its counts at its opening and after each request
pub record HasSeenZone (z : ZoneState) (r : ReaderState) : Type 0 where
  pub known : key_of z ≡ r.key.zone
  pub history : IsHistory z.plain z.entries
  pub seen : IsPublished z r.reader.seen
  pub all : r.reader.known ≡ length r.reader.seen
  pub looks : r.reader.looks ≡ []

-- a new reader of the zone with this key, whatever the zone was
abbrev pub IsNewReader : GateKey → ReaderState → Type 0
IsNewReader key r = (r.key ≡ key) × ((z : ZoneState) × HasSeenZone z r)

-- what a reading comes to, with nobody asked: the last of the counts that the reader has then seen, with their place, and how fresh they are
pub record IsRead (r s : ReaderState) (reading : Reading) : Type 0 where
  pub key : s.key ≡ r.key
  pub tie : s.reader.tie ≡ r.reader.tie
  pub seen : IsPrefix r.reader.seen s.reader.seen
  pub some : 0 < length s.reader.seen
  pub told : reading ≡ last_reading s.reader.seen
  pub fresh : IsFreshRead r.reader s.reader
  -- what was read before is of what is seen still, and so is this
  pub taken : IsReadingOf s.reader.seen reading
  pub kept : (x : Reading) → IsReadingOf r.reader.seen x → IsReadingOf s.reader.seen x

-- what one behind the lock comes to: the zone with the reader's key was visited, and the reader has seen all that is published of it; each reading
-- that it ever took is the zone's counts after as many requests as its place says
pub record IsReadInside (z : ZoneState) (r s : ReaderState) (reading : Reading) : Type 0 where
  pub key : s.key ≡ r.key
  pub tie : s.reader.tie ≡ r.reader.tie
  pub zone : HasSeenZone z s
  pub seen : IsPrefix r.reader.seen s.reader.seen
  pub known : r.reader.known ≤ s.reader.known
  pub told : reading ≡ last_reading s.reader.seen
  pub taken : (x : Reading) → IsReadingOf r.reader.seen x → IsCountsOf z x
