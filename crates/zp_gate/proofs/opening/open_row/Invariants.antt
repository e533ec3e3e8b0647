use Rattle.std.proofs.Common.{◌≡◌, ◌≤◌, ◌+◌, ◌++◌, length, map, vec_len, vec_capacity}
use Rattle.std.specs.Arc.{arc_value}
use Rattle.zp_gate.specs.GatedRows.{lock_key}
use Rattle.zp_gate.proofs.Keys.{key_in}
use Rattle.zp_gate.proofs.opening.open_row.Given as goal

abbrev pub invariant-loop-zone : goal.invariant-loop-zone
invariant-loop-zone l = record {
  room : vec_len l.locks + length l.zone-iterator.rest.items ≤ vec_capacity l.locks;
  keys : map (λ g. lock_key (arc_value g)) l.locks.items ++ map key_in l.zone-iterator.rest.items ≡ map key_in l.initial.zone-iterator.rest.items;
}
