use Rattle.std.proofs.Common.{◌≡◌, ◌≤◌, All, length, map, take, vec_len, vec_capacity}
use Rattle.zp_open_gate.specs.Rows.{IsGoodConfig, key_for, lock_key}
use Rattle.zp_open_gate.proofs.open_row.OpenRow.new.Given as goal

abbrev pub invariant-loop-config : goal.invariant-loop-config
invariant-loop-config l = record {
  many : vec_len l.locks ≡ l.config-index;
  good : All IsGoodConfig (take l.config-index l.configs);
  room : length l.configs ≤ vec_capacity l.locks;
  keys : map lock_key l.locks.items ≡ map key_for (take l.config-index l.configs);
}
