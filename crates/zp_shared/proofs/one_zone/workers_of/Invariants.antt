use Rattle.std.proofs.Common.{◌≡◌, ◌≤◌, ◌++◌, length, map}
use Rattle.std.specs.Vec.{vec_capacity}
use Rattle.zp_shared.specs.OneZones.{opening_worker}
use Rattle.zp_shared.proofs.one_zone.workers_of.Given as goal

-- the workers of the seats so far, with room for the others; making readers leaves the opened zone as it was
abbrev pub invariant-loop-seat : goal.invariant-loop-seat
invariant-loop-seat g l =
    record {
      workers : l.workers.items ≡ map (opening_worker l.fn.lists.batch l.fn.lists.high_len) l.yielded;
      whole : l.yielded ++ l.seat-iterator.rest.items ≡ l.fn.seats.items;
      opened : l.opened ≡ l.initial.opened;
      room : length l.fn.seats.items ≤ vec_capacity l.workers;
    }
