use Rattle.std.proofs.Common.{◌≡◌, ◌≤◌, ◌+◌, length, take}
use Rattle.std.specs.Vec.{vec_capacity}
use Rattle.zp_journal.proofs.journal.add_blanks.Given as goal

-- the entries that were there, so many blank ones behind them, and room for all
abbrev pub invariant-blanks : goal.invariant-blanks
invariant-blanks l =
    record {
      many : length l.room.items ≡ length l.initial.room.items + l.counter;
      same : take (length l.initial.room.items) l.room.items ≡ l.initial.room.items;
      room : l.capacity ≤ vec_capacity l.room;
    }
