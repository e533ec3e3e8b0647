use Rattle.std.proofs.Common.{◌≡◌, ◌≤◌, ◌++◌, length, map}
use Rattle.std.specs.Vec.{vec_capacity}
use Rattle.zp_zone.specs.Seats.{SeatState}
use Rattle.zp_share.specs.ZoneShares.{opening_share}
use Rattle.zp_share.proofs.share.Share.new.Given as goal

abbrev pub invariant-loop-seat : goal.invariant-loop-seat
invariant-loop-seat l =
    (l.zones.items ≡ map (λ (t : SeatState). opening_share t (length t.part.blocks)) l.yielded)
    × ((l.yielded ++ l.seat-iterator.rest.items ≡ l.fn.seats.items) × (length l.fn.seats.items ≤ vec_capacity l.zones))
