use Rattle.std.proofs.Common.{◌≡◌, ◌+◌, ◌-◌, ◌*◌, ◌≤◌, [], true, false, length}
use mathlib.Core.List.{IsPrefix}
use Rattle.zp_ring.specs.declared.ring.TheConstants.{TRIES}
use Rattle.zp_ring.proofs.Looking.{HaveTried}
use Rattle.zp_ring.proofs.ring.RingReader.read.Given as goal

-- the last look found the place, and each try before it was passed by
abbrev pub invariant-loop : goal.invariant-loop
invariant-loop g l = record {
  within : l.counter ≤ TRIES;
  tie : l.self-inside.pin.table_id ≡ l.initial.self-inside.pin.table_id;
  last : l.self-inside.last ≡ l.initial.self-inside.last;
  none : l.self-inside.pin.me.1 ≡ [];
  stores : l.self-inside.pin.me.0.stores ≡ false;
  reads : l.self-inside.pin.me.0.reads ≡ true;
  from : l.self-inside.pin.me.0.from ≡ l.place;
  got : l.self-inside.pin.me.0.got ≡ [];
  seen : IsPrefix l.initial.self-inside.pin.me.0.seen l.self-inside.pin.me.0.seen;
  many : length l.self-inside.pin.me.0.seen ≡ l.place + 1;
  tried : HaveTried g.row.S l.fn.self.known l.fn.self.looks l.self-inside.pin.me.0.looks l.counter l.place;
}
