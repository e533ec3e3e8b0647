use Rattle.std.proofs.Common.{◌≡◌, ◌≤◌, length, take}
use Rattle.zp_ring.proofs.ring.Ring.fetch.Given as goal

-- the words so far were got
abbrev pub invariant-loop-k : goal.invariant-loop-k
invariant-loop-k g l = record {
  within : l.k ≤ g.row.W;
  tie : l.pin.table_id ≡ l.fn.pin.table_id;
  long : length l.words ≡ g.row.W;
  me : l.pin.me ≡ (record l.fn.pin.me.0 { got = take l.k l.words }, l.fn.pin.me.1);
}
