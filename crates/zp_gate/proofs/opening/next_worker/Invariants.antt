use Rattle.std.proofs.Common.{ℕ, ◌≡◌, ◌≤◌, ◌+◌, All, length, map, slice_index_or, take, vec_len, vec_capacity}
use Rattle.std.specs.List.{AllWithin}
use Rattle.zp_gate.specs.declared.opening.OpenedZone.{OpenedZone}
use Rattle.zp_gate.specs.GatedWorkers.{GatedShareState, IsNewShare}
use Rattle.zp_gate.proofs.Keys.{key_in}
use Rattle.zp_gate.proofs.opening.next_worker.Given as goal

abbrev pub invariant-loop-zone : goal.invariant-loop-zone
invariant-loop-zone l = record {
  many : vec_len l.shares ≡ l.zone-index;
  room : l.zone-index-end ≤ vec_capacity l.shares;
  keys : map key_in l.zone-items ≡ map key_in l.initial.zone-items;
  at : map (λ (d : GatedShareState). d.key) l.shares.items ≡ map key_in (take l.zone-index l.fn.zones);
  new : (w : ℕ) → All (λ z. length z.seats.items ≡ w + 1) l.fn.zones → All (λ d. IsNewShare w l.lists.batch l.lists.high_len d.share) l.shares.items;
  left : (w : ℕ) → All (λ z. length z.seats.items ≡ w + 1) l.fn.zones → AllWithin (λ z. length z.seats.items ≡ w) l.zone-items 0 l.zone-index;
  rest : (k : ℕ) (d : OpenedZone) → l.zone-index ≤ k → slice_index_or l.zone-items k d ≡ slice_index_or l.fn.zones k d;
}
