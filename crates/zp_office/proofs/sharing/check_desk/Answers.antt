use Rattle.std.proofs.Common.{◌≡◌, ◌<◌, Some, ap, arith, below_more, get_or, length, set, subst, sym, ◌∙◌}
use Rattle.std.specs.List.{slice_get}
use Rattle.std.proofs.lemmas.List.{set-get_or}
use Rattle.std.proofs.lemmas.Option.{get_or_from_slice_get, slice_get_within}
use Rattle.zp_zone.specs.Seats.{IsSeatOf, ZoneState}
use Rattle.zp_share.specs.ZoneShares.{SharesIn}
use Rattle.zp_share.specs.Shares.{share_at}
use Rattle.zp_share.proofs.Telling.{as_many, seat_at}
use Rattle.zp_office.specs.Desks.{DeskState}
use Rattle.zp_office.proofs.sharing.check_desk.Goals as goal

pub check-requires-clause-place : goal.check-requires-clause-place
check-requires-clause-place c =
    let i = c.loop-place.invariant in
    omega (arith, c.loop-place-test.true, as_many c.args.zones.now c.args.desk.now.share c.requires, ap (λ (d : DeskState). length d.share.zones) i.desk)

pub check-requires-clause-seat : goal.check-requires-clause-seat
check-requires-clause-seat c =
    let i = c.loop-place.invariant in
    let r = c.index-zones-place.result in
    subst (λ (zs : _). IsSeatOf (get_or zs c.loop-place.place r) (share_at c.loop-place.desk.share c.loop-place.place).seat) (sym i.zones)
    (subst (λ (d : DeskState). IsSeatOf (get_or c.args.zones.now c.loop-place.place r) (share_at d.share c.loop-place.place).seat) (sym i.desk)
    (seat_at c.args.zones.now c.loop-place.place c.args.desk.now.share r c.loop-place-test.true c.requires))

pub loop-place-preserved : goal.loop-place-preserved
loop-place-preserved c =
    let i = c.loop-place.invariant in
    let n = c.loop-place.place in
    let r = c.index-zones-place.result in
    let zs = c.loop-place.zones in
    let told = c.check.ensures in
    record {
      zones = ap (set zs n) told.zone ∙ set-get_or zs n r ∙ i.zones;
      desk = told.desk ∙ i.desk;
      agree =
          below_more (λ k. (z : ZoneState) → slice_get c.args.zones.now k ≡ Some z → SharesIn z (share_at c.args.desk.now.share k)) n i.agree
          (λ z at.
          let one : get_or zs n r ≡ z = ap (λ l. get_or l n r) i.zones ∙ get_or_from_slice_get c.args.zones.now n z r at in
          subst (λ x. SharesIn x (share_at c.args.desk.now.share n)) one (subst (λ (d : DeskState). SharesIn (get_or zs n r) (share_at d.share n)) i.desk told.agree));
    }

pub returns-clause-agree : goal.returns-clause-agree
returns-clause-agree c = λ i z at.
    let within : i < length c.args.zones.now = slice_get_within c.args.zones.now i z at in
    c.loop-place.invariant.agree i (omega (arith, within, c.loop-place-test.false)) z at
