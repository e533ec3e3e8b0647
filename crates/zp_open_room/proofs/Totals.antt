-- Where the pages of a room are.
use Rattle.std.proofs.Common.{ℕ, ◌≡◌, ◌<◌, List, [], ◌∷◌, length, ap, refl, arith}
use Rattle.zp_model.specs.Lawful.{IsLawful, times_posted}
use Rattle.zp_model.specs.Zone.{PlainZone, PostedBlock, posted_pages, workers_of}
use Rattle.zp_laws.proofs.AddingUp.{pages_add_up}
use Rattle.zp_laws.proofs.HandedOut.{times-parts}
use Rattle.zp_open_room.specs.Rooms.{AddsUp, RoomState}

abbrev nothing_posted : List (List PostedBlock)
nothing_posted = [] ∷ []

no_posted_pages : (z : PlainZone) → z.posted ≡ nothing_posted → posted_pages z ≡ 0
unfolding posted_pages
no_posted_pages z e = rw e refl

nowhere_posted : (ps : List (List PostedBlock)) (i : ℕ) → ps ≡ nothing_posted → times_posted ps i ≡ 0
unfolding times_posted
nowhere_posted ps i e = rw e refl

-- where nothing is posted, and the zone has one worker
pub adds_up : (r : RoomState) → IsLawful r.zone.plain → r.zone.plain.posted ≡ [] ∷ [] → r.worker ≡ 0 → AddsUp r
adds_up r l none first =
    let z : PlainZone = r.zone.plain in
    record {
      once = λ i lt. omega (arith, times-parts z i, l.once i lt, nowhere_posted z.posted i none);
      own = λ h x e. let below : x.worker < workers_of z = (l.out h x e).1 in omega (arith, below, ap length none, first);
      sum = omega (arith, pages_add_up z l, no_posted_pages z none);
    }
