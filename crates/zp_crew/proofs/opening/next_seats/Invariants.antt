use Rattle.std.proofs.Common.{◌≡◌, ◌≤◌, ◌++◌, List, drop, get_or, length, map, take, vec_capacity}
use Rattle.zp_zone.specs.Seats.{SeatState}
use Rattle.zp_share.specs.Shares.{no_seat}
use Rattle.zp_crew.proofs.opening.next_seats.Given as goal

-- the rows so far lost their front seats, and there is room for those of the others
abbrev pub invariant-loop-row : goal.invariant-loop-row
invariant-loop-row l =
    record {
      own : l.own.items ≡ map (λ (crew : List SeatState). get_or crew 0 no_seat) (take l.row-index l.initial.seats);
      rest : l.seats ≡ map (λ (row : List SeatState). drop 1 row) (take l.row-index l.initial.seats) ++ drop l.row-index l.initial.seats;
      room : length l.seats ≤ vec_capacity l.own;
    }
