-- The shares that the workers of an office take from their desks.
use Rattle.std.proofs.Common.{◌≡◌, ◌∙◌, sym, ap, subst, arith, List, [], ◌∷◌, ◌++◌, length, map, All}
use Rattle.std.specs.List.{range_with_len}
use Rattle.std.proofs.lemmas.Simd.{map-map}
use Rattle.std.proofs.lemmas.List.{append-nil, length-map}
use Rattle.std.proofs.lemmas.List.Elements.{All-map}
use Rattle.zp_model.specs.Zone.{workers_of}
use Rattle.zp_zone.specs.Seats.{ZoneState}
use Rattle.zp_share.specs.Crews.{CrewState, AreSharesOf, crew_of}
use Rattle.zp_share.specs.PlainShares.{PlainShare}
use Rattle.zp_share.specs.Shares.{ShareState, IsShareOf, key_of, named_zone, plain}
use Rattle.zp_office.specs.Desks.{DeskState, PlainDesk, plain_desk}
use Rattle.zp_office.specs.Offices.{AreDesksOf, crew_in, office_of}

-- the shares of the desks
abbrev pub shares_in : List DeskState → List ShareState
shares_in ds = map (λ (d : DeskState). d.share) ds

pub shares_are : (zones : List ZoneState) (ds : List DeskState) → AreDesksOf zones ds → AreSharesOf zones (shares_in ds)
shares_are zones ds are =
    let long : length (shares_in ds) ≡ length ds = length-map ds (λ (d : DeskState). d.share) in
    record {
      fit = All-map (IsShareOf (map key_of zones)) (λ (d : DeskState). d.share) ds are.fit;
      workers = map-map (λ (s : ShareState). s.worker) (λ (d : DeskState). d.share) ds ∙ are.workers ∙ ap (range_with_len 0) (sym long);
      crew = subst (λ n. All (λ (z : ZoneState). workers_of z.plain ≡ n) zones) (sym long) are.crew;
    }

pub crew_left : (zones : List ZoneState) (ds : List DeskState) → crew_of zones (shares_in ds) ≡ crew_in (office_of zones ds)
crew_left zones ds =
    ap (λ (ps : List PlainShare). let c : CrewState = record { zones = map named_zone zones; shares = ps } in c)
    (map-map plain (λ (d : DeskState). d.share) ds ∙ sym (map-map (λ (d : PlainDesk). d.share) plain_desk ds))

-- where nothing is left, all were taken
pub all_taken : (yielded rest all ds : List DeskState) → yielded ++ rest ≡ all → length rest ≡ 0 → all ≡ ds → yielded ≡ ds
all_taken yielded [] all ds whole none e = sym (append-nil yielded) ∙ whole ∙ e
all_taken yielded (d ∷ rest) all ds whole none e = absurd (omega (arith, none))
