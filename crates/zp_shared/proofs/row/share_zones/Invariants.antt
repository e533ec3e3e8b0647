use Rattle.std.proofs.Common.{◌≡◌, ◌≤◌, ◌++◌, length}
use Rattle.std.specs.List.{range_with_len}
use Rattle.std.specs.Vec.{vec_capacity}
use Rattle.zp_shared.proofs.row.share_zones.Given as goal

-- the zones so far are behind their locks, at their places, and there is room for the others
abbrev pub invariant-loop-zone : goal.invariant-loop-zone
invariant-loop-zone g l =
    record {
      places : l.row.items ≡ range_with_len 0 (length l.yielded);
      many : length l.row.items ≡ length l.yielded;
      whole : l.yielded ++ l.zone-iterator.rest.items ≡ l.fn.opened.items;
      room : length l.fn.opened.items ≤ vec_capacity l.row;
    }
