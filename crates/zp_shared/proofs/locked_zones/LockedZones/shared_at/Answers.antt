use Rattle.std.proofs.Common.{◌∙◌, arith, rules}
use Rattle.zp_shared.proofs.Places.{row_length}
use Rattle.zp_shared.proofs.Readers.{place_at}
use Rattle.zp_shared.proofs.locked_zones.LockedZones.shared_at.Goals as goal

pub offset_bounds-row-zone : goal.offset_bounds-row-zone
offset_bounds-row-zone g c = let many = row_length g.J.Naming.zones c.self.inside.zones.now c.self.invariant.0 in search (rules, many)

pub bounds-row-zone : goal.bounds-row-zone
bounds-row-zone g c = let many = row_length g.J.Naming.zones c.self.inside.zones.now c.self.invariant.0 in omega (arith, many, c.requires)

pub returns : goal.returns
returns g c = c.index-row-zone.is ∙ place_at g.J.Naming.zones c.self.inside.zones.now c.args.zone c.index-row-zone.result c.self.invariant.0 c.requires
