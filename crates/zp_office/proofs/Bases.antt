-- Zones begin where they began after a turn.
use Rattle.std.proofs.Common.{◌≡◌, ◌∙◌, sym, ap, List, map}
use Rattle.std.proofs.lemmas.Simd.{map-map}
use Rattle.zp_zone.specs.NamedZone.{NamedZone}
use Rattle.zp_zone.specs.Seats.{ZoneState}
use Rattle.zp_share.specs.Shares.{ZoneKey, key_of, named_zone}
use Rattle.zp_office.specs.Bases.{bases_of}
use Rattle.zp_office.specs.Desks.{DeskState}
use Rattle.zp_office.specs.Offices.{OfficeState, office_of}

named-bases : (zs : List ZoneState) → map (λ (z : NamedZone). z.plain.base) (map named_zone zs) ≡ map (λ (k : ZoneKey). k.base) (map key_of zs)
named-bases zs = map-map (λ (z : NamedZone). z.plain.base) named_zone zs ∙ sym (map-map (λ (k : ZoneKey). k.base) key_of zs)

-- zones with the same keys begin at the same pages
pub bases_after : (zones new : List ZoneState) (desks : List DeskState) (before : OfficeState) → office_of zones desks ≡ before → map key_of new ≡ map key_of zones →
    map (λ (z : NamedZone). z.plain.base) (map named_zone new) ≡ bases_of before
bases_after zones new desks before view keys =
    named-bases new ∙ ap (map (λ (k : ZoneKey). k.base)) keys ∙ sym (named-bases zones) ∙ ap bases_of view
