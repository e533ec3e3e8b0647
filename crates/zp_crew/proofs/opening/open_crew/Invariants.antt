use Rattle.std.proofs.Common.{◌≡◌, ◌≤◌, All, drop, map, vec_capacity}
use Rattle.std.specs.List.{range_with_len}
use Rattle.zp_zone.specs.Seats.{ZoneState, books, seats_of}
use Rattle.zp_share.specs.Shares.{ShareState, IsShareOf, key_of, plain}
use Rattle.zp_crew.specs.Opening.{opening_share, plain_config}
use Rattle.zp_crew.proofs.opening.open_crew.Given as goal

-- the workers so far have their shares, their seats are taken off the rows, and there is room for the other shares
abbrev pub invariant-loop : goal.invariant-loop
invariant-loop l =
    record {
      rows : l.seats.items ≡ map (λ (z : ZoneState). drop l.counter (seats_of z.tie (books z) l.workers)) l.zones.items;
      shares : map plain l.shares.items ≡ map (opening_share l.lists.batch l.lists.high_len (map plain_config l.configs)) (range_with_len 0 l.counter);
      workers : map (λ (s : ShareState). s.worker) l.shares.items ≡ range_with_len 0 l.counter;
      fit : All (IsShareOf (map key_of l.zones.items)) l.shares.items;
      room : l.workers ≤ vec_capacity l.shares;
    }
