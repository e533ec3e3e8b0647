use Rattle.std.proofs.Common.{ℕ, ◌≡◌, List, length, map, Some}
use Rattle.std.specs.List.{range_with_len}
use Rattle.zp_zone.specs.NamedZone.{NamedZone}
use Rattle.zp_share.specs.Commands.{counts_at}
use Rattle.zp_office.proofs.carrying_out.counts_in.Given as goal

-- the counts of the zones before this one
abbrev pub invariant-loop-zone : goal.invariant-loop-zone
invariant-loop-zone g l = record {
  keys : g.Z.Zones.keys l.zones ≡ g.Z.Zones.keys l.fn.zones;
  count : length l.row ≡ l.zone;
  covered : (i n : ℕ) → g.Z.Zones.covers l.fn.zones i n → g.Z.Zones.covers l.zones i n;
  shown : l.row ≡ map (g.Z.Zones.shown l.zones) (range_with_len 0 l.zone);
  told : (rows : List NamedZone) → g.Z.Zones.told l.fn.zones ≡ Some rows → (l.row ≡ map (counts_at rows) (range_with_len 0 l.zone)) × (g.Z.Zones.told l.zones ≡ Some rows);
}
