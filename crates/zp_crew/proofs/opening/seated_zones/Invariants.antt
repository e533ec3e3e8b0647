use Rattle.std.proofs.Common.{◌≡◌, ◌≤◌, List, [], All, length, map, take, vec_capacity}
use Rattle.zp_zone.specs.Seats.{ZoneState, SeatState, IsUnused, books, seats_of}
use Rattle.zp_share.specs.Shares.{named_zone}
use Rattle.zp_crew.specs.Opening.{CanBeMade, opened_zone, plain_config}
use Rattle.zp_crew.proofs.opening.seated_zones.Given as goal

-- the zones of the configs so far with their seats, and there is room for the others
abbrev pub invariant-loop-config : goal.invariant-loop-config
invariant-loop-config l =
    record {
      good : All (CanBeMade l.workers) (take l.config-index (map plain_config l.configs));
      zones : map named_zone l.zones.items ≡ map (opened_zone l.workers) (take l.config-index (map plain_config l.configs));
      seats : l.seats.items ≡ map (λ (z : ZoneState). seats_of z.tie (books z) l.workers) l.zones.items;
      unused : All (λ (row : List SeatState). All IsUnused row) l.seats.items;
      new : All (λ (z : ZoneState). z.entries ≡ []) l.zones.items;
      zones_room : length l.configs ≤ vec_capacity l.zones;
      seats_room : length l.configs ≤ vec_capacity l.seats;
    }
