-- A zone whose blocks are all out in one name (this profile).
use Rattle.std.specs.Prelude.{ℕ, ◌≡◌, ◌<◌, ◌+◌, [], ◌∷◌, cond, Some}
use Rattle.zp_model.specs.Block.{has, size}
use Rattle.zp_model.specs.Lawful.{times_out}
use Rattle.zp_model.specs.Zone.{Holding, holding_at, out_pages, pages_of}
use Rattle.zp_zone.specs.Seats.{Agrees, IsSeatOf, SeatState, ZoneState}
use Rattle.zp_open_room.specs.declared.room_totals.RoomTotals.{RoomTotals}

-- the zone, and the worker in whose name all is out that is out
pub record RoomState : Type 0 where
  pub zone : ZoneState
  pub worker : ℕ

-- the seat is that of the zone's one worker, and has what is out; nothing is posted
pub record IsRoom (z : ZoneState) (s : SeatState) : Type 0 where
  pub seat : IsSeatOf z s
  pub worker : s.worker ≡ 0
  pub agrees : Agrees z s
  pub posted : z.plain.posted ≡ [] ∷ []

-- how many pages of the zone are free, and how many are in blocks that are out
abbrev pub totals_of : RoomState → RoomTotals
totals_of r = record { free = size r.zone.plain.area.free; out = out_pages r.zone.plain }

-- each page is free or in one block that is out, each such block in the one name, and so the numbers add up to the zone's pages
pub record AddsUp (r : RoomState) : Type 0 where
  pub once : (i : ℕ) → i < pages_of r.zone.plain → cond (has r.zone.plain.area.free i) 1 0 + times_out r.zone.plain.out i ≡ 1
  pub own : (h : ℕ) (x : Holding) → holding_at r.zone.plain.out h ≡ Some x → x.worker ≡ r.worker
  pub sum : size r.zone.plain.area.free + out_pages r.zone.plain ≡ pages_of r.zone.plain
