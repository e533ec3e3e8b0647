-- What stands behind a lock: a zone all of whose blocks are out in one name (this profile).
use Rattle.std.specs.Prelude.{◌≡◌, ◌⊎◌}
use Rattle.zp_model.specs.declared.request.Request.{Request}
use Rattle.zp_model.specs.Run.{IsHistory}
use Rattle.zp_model.specs.Zone.{pages_of, workers_of}
use Rattle.zp_zone.specs.Seats.{ZoneState, asked}
use Rattle.zp_open_room.specs.Rooms.{RoomState}
use Rattle.zp_open_gate.specs.declared.room_key.RoomKey.{RoomKey}

-- what of a zone never changes: its name, the absolute number of its first page, how many pages it has, its least mark, and the order of its
-- largest block
abbrev pub key_of : ZoneState → RoomKey
key_of z = record { name = z.name; base = z.plain.base; pages = pages_of z.plain; min = z.plain.min; largest = z.plain.area.largest }

-- it is the room that the key tells of, with its one worker, who is number 0
pub record IsKnownAs (key : RoomKey) (y : RoomState) : Type 0 where
  pub zone : key_of y.zone ≡ key
  pub workers : workers_of y.zone.plain ≡ 1
  pub worker : y.worker ≡ 0

-- and what its requests made of it: a legal list of entries from its opening, whose run the zone is
pub record IsBehind (key : RoomKey) (y : RoomState) : Type 0 where
  pub known : IsKnownAs key y
  pub history : IsHistory y.zone.plain y.zone.entries

-- what one call makes of a room: one request more of its one worker, or nothing
abbrev pub IsOneCall : RoomState → RoomState → Type 0
IsOneCall y z = ((r : Request) × (z ≡ record y { zone = asked y.worker r y.zone })) ⊎ (z ≡ y)
