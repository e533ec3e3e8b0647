-- The info lines of a row of zones, line by line.
use Rattle.std.proofs.Common.{ℕ, zero, suc, ◌≡◌, ◌<◌, ◌∙◌, refl, sym, ap, arith, List, [], ◌∷◌, length, map, get_or}
use Rattle.std.specs.List.{zip}
use Rattle.std.proofs.Math.ListN.{get_or-map}
use Rattle.std.proofs.lemmas.List.{length-map}
use Rattle.std.proofs.lemmas.Slice.Zip.{length-zip, get_or-zip}
use Rattle.zp_model.specs.declared.counts.Counts.{Counts}
use Rattle.zp_model.specs.Info.{info_line}
use Rattle.zp_zone.specs.NamedZone.{NamedZone}
use Rattle.zp_zone.specs.Seats.{ZoneState}
use Rattle.zp_share.specs.Shares.{named_zone}

-- the zones by their names
pub named_place : (zs : List ZoneState) (i : ℕ) → i < length zs → i < length (map named_zone zs)
named_place zs i lt = omega (arith, lt, length-map zs named_zone)

pub named_there : (zs : List ZoneState) (i : ℕ) (z : ZoneState) → z ≡ get_or zs i z → named_zone z ≡ get_or (map named_zone zs) i (named_zone z)
named_there zs i z is = ap named_zone is ∙ sym (get_or-map named_zone zs i z)

-- the line of a zone with these counts
abbrev pub line_of : NamedZone × Counts → List ℕ
line_of p = info_line p.0.name p.0.plain.area.largest p.1

pub pair_place : (zs : List ZoneState) (cs : List Counts) (i : ℕ) → i < length zs → i < length cs → i < length (zip (map named_zone zs) cs)
pair_place zs cs i zone counts = omega (arith, length-zip (map named_zone zs) cs, length-map zs named_zone)

abbrev pub no_counts : Counts
no_counts = record { by_order = []; free = 0 }

-- what stands at a place of a list is the same whatever would stand past its end
pub get_or-any : {X : Type 0} (xs : List X) (i : ℕ) (d e : X) → i < length xs → get_or xs i d ≡ get_or xs i e
get_or-any [] i d e lt = absurd (omega (arith, lt))
get_or-any (x ∷ xs) zero d e lt = refl
get_or-any (x ∷ xs) (suc i) d e lt = get_or-any xs i d e (omega (arith, lt))

pub pair_there : (zs : List ZoneState) (cs : List Counts) (i : ℕ) (z : ZoneState) → i < length zs → i < length cs → z ≡ get_or zs i z →
    (named_zone z, get_or cs i no_counts) ≡ get_or (zip (map named_zone zs) cs) i (named_zone z, get_or cs i no_counts)
pair_there zs cs i z zone counts is =
    ap (λ n. (n, get_or cs i no_counts)) (named_there zs i z is)
    ∙ ap (λ d. (get_or (map named_zone zs) i (named_zone z), d)) (get_or-any cs i no_counts (get_or cs i no_counts) counts)
    ∙ sym (get_or-zip (map named_zone zs) cs i (named_zone z, get_or cs i no_counts) (omega (arith, zone, length-map zs named_zone)) counts)
