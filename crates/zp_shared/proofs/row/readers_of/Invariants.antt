use Rattle.std.proofs.Common.{◌≡◌, ◌≤◌, length, map, take}
use Rattle.std.specs.Vec.{vec_capacity}
use Rattle.zp_shared.specs.Rows.{opened_reader}
use Rattle.zp_shared.proofs.row.readers_of.Given as goal

-- a reader of each zone so far, the zones as they were, and room for the other readers
abbrev pub invariant-loop-zone : goal.invariant-loop-zone
invariant-loop-zone g l =
    record {
      same : l.opened ≡ l.initial.opened;
      readers : l.readers.items ≡ map opened_reader (take l.zone-index l.initial.opened);
      room : length l.initial.opened ≤ vec_capacity l.readers;
    }
