use Rattle.std.proofs.Common.{◌≡◌, vec_len, vec_capacity}
use Rattle.zp_zone.specs.Seats.{seats_of}
use Rattle.zp_zone.proofs.seat.seats.Given as goal

abbrev pub invariant-crew : goal.invariant-crew
invariant-crew l = record {
  seats : l.seats.items ≡ seats_of l.fn.keeper.tie l.fn.keeper.whole l.number;
  keeper : l.keeper ≡ record l.fn.keeper { dealt = l.number };
  count : vec_len l.seats ≡ l.number;
  room : vec_capacity l.seats ≡ l.workers;
}
