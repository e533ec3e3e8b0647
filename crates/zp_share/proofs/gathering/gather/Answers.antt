use Rattle.std.proofs.Common.{ℕ, ◌≡◌, All, map, get_or, set, length, sym, ◌∙◌, ap, subst, below_more, arith, lit<}
use Rattle.std.proofs.lemmas.List.{set-get_or}
use Rattle.std.proofs.lemmas.List.FromFn.{length-map-range_with_len}
use Rattle.zp_zone.specs.Seats.{IsSeatOf}
use Rattle.zp_share.specs.declared.gathering.Totals.{Totals}
use Rattle.zp_share.specs.Commands.{zone_at}
use Rattle.zp_share.specs.Shares.{ShareState, named_zone, plain, share_at}
use Rattle.zp_share.specs.Gathering.{AddsUp, IsCrewOf, owns_at, totals_of}
use Rattle.zp_share.proofs.Gathered.{all_fitted, named-is, totals_more}
use Rattle.zp_share.proofs.gathering.gather.Goals as goal

pub gather_zone-requires-clause-fits : goal.gather_zone-requires-clause-fits
gather_zone-requires-clause-fits c =
    let i = c.loop-place.place in
    let r = c.index-zones-place.result in
    subst (λ l. All (λ (s : ShareState). IsSeatOf (get_or c.loop-place.zones i r) (share_at s i).seat) l) (sym c.loop-place.invariant.shares)
    (subst (λ zs. All (λ (s : ShareState). IsSeatOf (get_or zs i r) (share_at s i).seat) c.args.shares.now) (sym c.loop-place.invariant.zones)
    (all_fitted c.args.zones.now c.args.shares.now i r c.loop-place-test.true c.requires.fits))

pub gather_zone-requires-clause-crew : goal.gather_zone-requires-clause-crew
gather_zone-requires-clause-crew c =
    let i = c.loop-place.place in
    let r = c.index-zones-place.result in
    subst (λ l. IsCrewOf l (get_or c.loop-place.zones i r)) (sym c.loop-place.invariant.shares)
    (subst (λ zs. IsCrewOf c.args.shares.now (get_or zs i r)) (sym c.loop-place.invariant.zones) (c.requires.crew i r c.loop-place-test.true))

-- as many totals as places were gone over
pub push-requires : goal.push-requires
push-requires c =
    let f : ℕ → Totals = λ j. totals_of (zone_at (map named_zone c.args.zones.now) j).plain (owns_at (map plain c.args.shares.now) j) in
    let many : length c.loop-place.totals.items ≡ c.loop-place.place = ap length c.loop-place.invariant.totals ∙ length-map-range_with_len f 0 c.loop-place.place in
    (lit< tt, omega (arith, many, c.requires.few, c.loop-place-test.true, ap length c.loop-place.invariant.zones))

pub loop-place-preserved : goal.loop-place-preserved
loop-place-preserved c =
    let i = c.loop-place.place in
    let r = c.index-zones-place.result in
    let zs = c.loop-place.zones in
    let was = c.loop-place.invariant in
    let told = c.gather_zone.ensures in
    let f : ℕ → Totals = λ j. totals_of (zone_at (map named_zone c.args.zones.now) j).plain (owns_at (map plain c.args.shares.now) j) in
    let plain_is : (get_or zs i r).plain ≡ (zone_at (map named_zone c.args.zones.now) i).plain =
    ap (λ l. (get_or l i r).plain) was.zones ∙ sym (named-is c.args.zones.now i r c.loop-place-test.true) in
    record {
      zones = ap (set zs i) told.zone ∙ set-get_or zs i r ∙ was.zones;
      shares = told.shares ∙ was.shares;
      totals =
          c.push.ensures.items
          ∙ totals_more f i c.loop-place.totals.items c.gather_zone.result was.totals
          (told.totals ∙ ap (λ z. totals_of z (owns_at (map plain c.loop-place.shares) i)) plain_is ∙ ap (λ l. totals_of (zone_at (map named_zone c.args.zones.now) i).plain (owns_at (map plain l) i)) was.shares);
      adds_up =
          below_more _ _ was.adds_up
          (subst (λ l. AddsUp (zone_at (map named_zone c.args.zones.now) i).plain (owns_at (map plain l) i)) was.shares (subst (λ z. AddsUp z (owns_at (map plain c.loop-place.shares) i)) plain_is told.adds_up));
    }
