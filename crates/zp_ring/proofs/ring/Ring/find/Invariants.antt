use Rattle.std.proofs.Common.{◌≡◌, ◌<◌, ◌≤◌, ℕ, length, get_or}
use Rattle.zp_board.specs.Boards.{last_of}
use Rattle.zp_ring.proofs.ring.Ring.find.Given as goal

-- the words so far are those of the last entry
abbrev pub invariant-loop-k : goal.invariant-loop-k
invariant-loop-k g l = record {
  within : l.k ≤ g.row.W;
  tie : l.pin.table_id ≡ l.fn.pin.table_id;
  me : l.pin.me ≡ l.fn.pin.me;
  long : length l.words ≡ g.row.W;
  words : (j : ℕ) → j < l.k → get_or l.words j 0 ≡ get_or (last_of l.fn.pin.me.0.entries) j 0;
}
