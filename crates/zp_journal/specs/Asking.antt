-- A zone that is asked for what an entry says (this profile).
use Rattle.std.specs.Prelude.{ℕ, ◌≡◌, ◌≢◌, ◌⊎◌, Bool, true, false, List, All, map, Option, None, Some}
use Rattle.std.specs.List.{range_with_len}
use Rattle.zp_model.specs.Entries.{Entry, reply_of}
use Rattle.zp_model.specs.declared.entry.Answered.{Answered}
use Rattle.zp_model.specs.declared.request.Request.{Request}
use Rattle.zp_model.specs.declared.request.Reply.{Reply}
use Rattle.zp_model.specs.Zone.{workers_of}
use Rattle.zp_model.specs.Step.{step}
use Rattle.zp_model.specs.Run.{may_ask, IsDefined, IsLegalEntry}
use Rattle.zp_zone.specs.Seats.{ZoneState, SeatState, IsSeatOf, asked}

-- the seats of the zone, one for each of its workers in order
pub record AreSeatsOf (z : ZoneState) (seats : List SeatState) : Type 0 where
  pub ties : All (IsSeatOf z) seats
  pub workers : map (λ (s : SeatState). s.worker) seats ≡ range_with_len 0 (workers_of z.plain)

-- the seat is the worker's still, and of the same zone
pub record IsSeatStill (before after : SeatState) : Type 0 where
  pub tie : after.tie ≡ before.tie
  pub worker : after.worker ≡ before.worker

-- the reply q is this one, where its list of pages is ps; none, where it is none with that list
abbrev pub IsReplyWith : List ℕ → Reply → Option Answered → Type 0
IsReplyWith ps q None = (a : Answered) → reply_of a ps ≢ q
IsReplyWith ps q (Some a) = reply_of a ps ≡ q

-- the zone after it was asked once more for what an entry says, where the entry's worker is one of its own and may ask for it; else
-- the zone as it was
pub record IsTried (z : ZoneState) (e : Entry) (y : ZoneState) : Type 0 where
  pub made : IsDefined z.plain e.worker e.request → y ≡ asked e.worker e.request z
  pub kept : (IsDefined z.plain e.worker e.request → ⊥) → y ≡ z

-- the zone was asked for this by worker w, who may ask for it, and o is its reply
pub record IsAskedWith (z : ZoneState) (w : ℕ) (r : Request) (ps : List ℕ) (o : Option Answered) (y : ZoneState) : Type 0 where
  pub may : IsDefined z.plain w r
  pub reply : IsReplyWith ps (step z.plain w r).reply o
  pub after : y ≡ asked w r z

-- what is answered where worker w asks for this, and the zone that it leaves: the reply, where w may ask for it; else nothing, and the
-- zone as it was
abbrev pub IsAnsweredWith : ZoneState → ℕ → Request → List ℕ → Option Answered → ZoneState → Type 0
IsAnsweredWith z w r ps None y = ((may_ask z.plain w r ≡ false) × (y ≡ z)) ⊎ IsAskedWith z w r ps None y
IsAnsweredWith z w r ps (Some a) y = IsAskedWith z w r ps (Some a) y

-- what is found where an entry is repeated, and the zone that it leaves
abbrev pub IsRepeated : ZoneState → Entry → Bool → ZoneState → Type 0
IsRepeated z e true y = IsLegalEntry z.plain e × (y ≡ asked e.worker e.request z)
IsRepeated z e false y = (IsLegalEntry z.plain e → ⊥) × IsTried z e y
