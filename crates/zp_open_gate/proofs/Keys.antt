-- What a room is known by: it stays whatever one call makes of it.
use Rattle.std.proofs.Common.{ℕ, ◌≡◌, ◌∙◌, List, [], length, true, ap, inl, inr, subst, sym}
use Rattle.std.proofs.lemmas.List.{length-replicate}
use Rattle.zp_model.specs.declared.request.Request.{Request}
use Rattle.zp_model.specs.Area.{opening}
use Rattle.zp_model.specs.Step.{step}
use Rattle.zp_model.specs.Zone.{workers_of, zone_opening}
use Rattle.zp_laws.specs.FreePages.{IsSameZone}
use Rattle.zp_laws.proofs.Opening.{free-opening, largest-opening}
use Rattle.zp_laws.proofs.Sameness.{step-same}
use Rattle.zp_zone.specs.Seats.{ZoneState, asked}
use Rattle.zp_open_room.specs.Rooms.{RoomState}
use Rattle.zp_open_gate.specs.declared.room_key.RoomKey.{RoomKey}
use Rattle.zp_open_gate.specs.Rooms.{IsKnownAs, IsOneCall, key_of}

-- a zone that is the same but for what is free and out has the same key
same_key : (z : ZoneState) (w : ℕ) (r : Request) → IsSameZone z.plain (step z.plain w r).zone → key_of (asked w r z) ≡ key_of z
same_key z w r kept = λ i. record { name = z.name; base = kept.base i; pages = kept.pages i; min = kept.min i; largest = kept.largest i }

asked_known : (key : RoomKey) (y : RoomState) (r : Request) → IsKnownAs key y → IsKnownAs key (record y { zone = asked y.worker r y.zone })
asked_known key y r known =
    let kept = step-same y.zone.plain y.worker r in
    record { zone = same_key y.zone y.worker r kept ∙ known.zone; workers = kept.workers ∙ known.workers; worker = known.worker }

pub known_still : (key : RoomKey) (y z : RoomState) → IsKnownAs key y → IsOneCall y z → IsKnownAs key z
known_still key y z known (inl x) = subst (IsKnownAs key) (sym x.1) (asked_known key y x.0 known)
known_still key y z known (inr same) = subst (IsKnownAs key) (sym same) known

-- a zone that was opened is known by what it was made with
pub opening_known : (y : RoomState) (name : List ℕ) (m base pages min : ℕ) → y.zone ≡ record { tie = y.zone.tie; name = name; plain = zone_opening m base pages min 1; entries = [] } → y.worker ≡ 0 →
    IsKnownAs (record { name = name; base = base; pages = pages; min = min; largest = m }) y
opening_known y name m base pages min is worker =
    let many : length (opening m pages).free ≡ pages = ap length (free-opening m pages) ∙ length-replicate pages true in
    record {
      zone = ap key_of is ∙ (λ i. record { name = name; base = base; pages = many i; min = min; largest = largest-opening m pages i });
      workers = ap (λ (z : ZoneState). workers_of z.plain) is;
      worker = worker;
    }
