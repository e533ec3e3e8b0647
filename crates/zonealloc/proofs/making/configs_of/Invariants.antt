use Rattle.std.proofs.Common.{ℕ, ◌≡◌, ◌≤◌, All, length, map, take, vec_len, vec_capacity}
use Rattle.zp_gate.specs.GatedRows.{key_for, wanted_by}
use Rattle.zonealloc.specs.Zones.{IsConfig, spec_key, wanted_zone}
use Rattle.zonealloc.proofs.making.configs_of.Given as goal

abbrev pub invariant-loop-zone : goal.invariant-loop-zone
invariant-loop-zone l = record {
  many : vec_len l.configs ≡ l.zone-index;
  room : length l.zones ≤ vec_capacity l.configs;
  keys : (n : ℕ) → map (key_for n) l.configs.items ≡ map (spec_key n) (take l.zone-index l.zones);
  wanted : (n : ℕ) → map (wanted_by n) l.configs.items ≡ map (wanted_zone n) (take l.zone-index l.zones);
  good : All IsConfig (take l.zone-index l.zones);
}
