use Rattle.std.proofs.Common.{◌≡◌, ◌≤◌, take}
use Rattle.zp_board.proofs.board.WordBoard.write.Given as goal

-- the words so far stand in the next entry
abbrev pub invariant-loop-k : goal.invariant-loop-k
invariant-loop-k g l = record {
  within : l.k ≤ g.row.W;
  tie : l.pin.table_id ≡ l.fn.pin.table_id;
  me : l.pin.me ≡ (record l.fn.pin.me.0 { next = take l.k l.entry }, l.fn.pin.me.1);
}
