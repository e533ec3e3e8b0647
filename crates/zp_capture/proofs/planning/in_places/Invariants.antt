use Rattle.std.proofs.Common.{◌≡◌, ◌≤◌, All, length, map, take, vec_capacity}
use Rattle.zp_capture.specs.Plans.{HasPlace, in_place}
use Rattle.zp_capture.proofs.planning.in_places.Given as goal

-- so far one stands in the place of each, and there is room for the others
abbrev pub invariant-zones : goal.invariant-zones
invariant-zones l =
    record {
      plans : l.plans.items ≡ map in_place (take l.zone-index l.zones);
      placed : All HasPlace (take l.zone-index l.zones);
      room : length l.zones ≤ vec_capacity l.plans;
    }
