use Rattle.std.proofs.Common.{◌≡◌, ◌<◌, ◌≤◌, ℕ, length, get_or}
use Rattle.zp_board.specs.Boards.{entry_at}
use Rattle.zp_board.proofs.board.WordBoard.fetch.Given as goal

-- the words so far are those of the entry
abbrev pub invariant-loop-k : goal.invariant-loop-k
invariant-loop-k g l = record {
  within : l.k ≤ g.row.W;
  tie : l.pin.table_id ≡ l.fn.pin.table_id;
  me : l.pin.me ≡ l.fn.pin.me;
  long : length l.entry ≡ g.row.W;
  words : (j : ℕ) → j < l.k → get_or l.entry j 0 ≡ get_or (entry_at l.fn.pin.me.0.seen l.fn.place) j 0;
}
