-- What one visit behind a lock comes to (this profile). What stands there is not seen between visits: each of them speaks of it as it is then.
use Rattle.std.specs.Prelude.{◌≡◌, ◌↔◌, Bool, IfErr, IsOk, IsTrue, OnErr, OnOk, Result, Some}
use Rattle.zp_model.specs.declared.refused.Refused.{Refused}
use Rattle.zp_model.specs.declared.refused.Refused.TheVariants.{NotLent}
use Rattle.zp_model.specs.declared.request.Request.{Request}
use Rattle.zp_model.specs.declared.request.Reply.{Reply}
use Rattle.zp_model.specs.Step.{step}
use Rattle.zp_zone.specs.Seats.{asked}
use Rattle.zp_open_room.specs.Rooms.{AddsUp, RoomState, totals_of}
use Rattle.zp_open_room.specs.declared.room_totals.RoomTotals.{RoomTotals}
use Rattle.zp_open_gate.specs.declared.room_key.RoomKey.{RoomKey}
use Rattle.zp_open_gate.specs.declared.visit_view.VisitView.{VisitView}
use Rattle.zp_open_gate.specs.Rooms.{IsBehind}

-- the visitor found the one behind the lock with this key, and left the other
pub record IsVisit (key : RoomKey) (y z : RoomState) (v : VisitView) : Type 0 where
  pub view : v ≡ record { key = key; found = Some y; left = Some z }
  pub behind : IsBehind key y

-- it is so of the room that the visitor found, and of the one that he left
abbrev pub IsOfVisit : RoomKey → VisitView → (RoomState → RoomState → Type 0) → Type 0
IsOfVisit key v P = (y : RoomState) × (z : RoomState) × IsVisit key y z v × P y z

-- the visitor changed nothing, and it is so of the room that he found
abbrev pub IsSeen : RoomKey → VisitView → (RoomState → Type 0) → Type 0
IsSeen key v P = (y : RoomState) × IsVisit key y y v × P y

-- the request was made, and granted or refused as the reply says
pub record IsAsked (r : Request) (q : Reply) (y z : RoomState) : Type 0 where
  pub reply : q ≡ (step y.zone.plain y.worker r).reply
  pub after : z ≡ record y { zone = asked y.worker r y.zone }

-- what was put back was out, whoever got it, and the request was made; or it was not out, and was refused with 20, and nothing changed
pub record IsPut (lent : Bool) (r : Request) (answer : Result (Unit {0}) Refused) (y z : RoomState) : Type 0 where
  pub exact : IsOk answer ↔ IsTrue lent
  pub ok : OnOk answer (z ≡ record y { zone = asked y.worker r y.zone })
  pub err : OnErr answer (z ≡ y)
  pub why : IfErr answer (λ e. e ≡ NotLent)

-- where the pages of the room are: each is free, or in one block that is out, and so they add up
pub record IsGathered (t : RoomTotals) (y : RoomState) : Type 0 where
  pub totals : t ≡ totals_of y
  pub adds_up : AddsUp y
