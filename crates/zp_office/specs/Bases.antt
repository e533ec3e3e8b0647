-- Where the zones of an office begin.
use Rattle.std.specs.Prelude.{ℕ, List, map}
use Rattle.zp_zone.specs.NamedZone.{NamedZone}
use Rattle.zp_office.specs.Offices.{OfficeState}

-- the first page of each zone
abbrev pub bases_of : OfficeState → List ℕ
bases_of o = map (λ (z : NamedZone). z.plain.base) o.zones
