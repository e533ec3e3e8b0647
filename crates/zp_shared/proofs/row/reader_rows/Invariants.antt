use Rattle.std.proofs.Common.{◌≡◌, ◌≤◌, All, length, map}
use Rattle.std.specs.Vec.{vec_capacity}
use Rattle.zp_shared.specs.Rows.{AreReaders, opened_board, opened_key}
use Rattle.zp_shared.proofs.row.reader_rows.Given as goal

-- a row of readers for each worker so far, the zones as they were, and room for the other rows
abbrev pub invariant-loop : goal.invariant-loop
invariant-loop g l =
    record {
      same : l.opened ≡ l.initial.opened;
      many : length l.rows.items ≡ l.counter;
      fit : All (AreReaders (map opened_key l.initial.opened) (map opened_board l.initial.opened)) l.rows.items;
      room : l.workers ≤ vec_capacity l.rows;
    }
