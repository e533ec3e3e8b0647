use Rattle.std.proofs.Common.{ℕ, ◌≡◌, ◌≤◌, ◌+◌, length, map, All, vec_len, vec_capacity}
use Rattle.zp_gate.specs.GatedWorkers.{AllDown, IsNewWorker}
use Rattle.zp_gate.proofs.Keys.{key_in}
use Rattle.zp_gate.proofs.opening.crew_of.Given as goal

abbrev pub invariant-loop : goal.invariant-loop
invariant-loop l = record {
  many : vec_len l.crew ≡ l.counter;
  room : l.workers ≤ vec_capacity l.crew;
  same : length l.zones ≡ length l.fn.zones;
  keys : map key_in l.zones ≡ map key_in l.fn.zones;
  left : (n : ℕ) → n + l.counter ≡ l.workers → All (λ z. length z.seats.items ≡ n) l.zones;
  new : AllDown (λ w b. IsNewWorker w l.lists.batch l.lists.high_len (map key_in l.fn.zones) b.value) l.workers l.crew.items;
}
