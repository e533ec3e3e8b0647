use Rattle.std.proofs.Common.{◌≡◌, ◌≤◌, All, length, map, take, vec_len, vec_capacity}
use Rattle.zp_gate.specs.GatedRows.{HaveBoards, IsGoodConfig, key_for, untied}
use Rattle.zp_gate.proofs.Keys.{key_in}
use Rattle.zp_gate.proofs.opening.opened_zones.Given as goal

abbrev pub invariant-loop-config : goal.invariant-loop-config
invariant-loop-config l = record {
  many : vec_len l.zones ≡ l.config-index;
  good : All (IsGoodConfig l.workers) (take l.config-index l.configs);
  room : length l.configs ≤ vec_capacity l.zones;
  keys : map untied (map key_in l.zones.items) ≡ map (key_for l.workers) (take l.config-index l.configs);
  boards : HaveBoards l.boards (map key_in l.zones.items);
  seats : All (λ z. length z.seats.items ≡ l.workers) l.zones.items;
}
