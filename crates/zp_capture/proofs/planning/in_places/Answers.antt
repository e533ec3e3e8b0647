use Rattle.std.proofs.Common.{refl, ap, arith, ◌∙◌}
use Rattle.zp_capture.specs.Plans.{in_place}
use Rattle.zp_capture.proofs.PlannedZones.{first_is, made_so_far, placed_more}
use Rattle.zp_crew.proofs.Seating.{made_more}
use Rattle.zp_capture.proofs.planning.in_places.Goals as goal

pub returns-in-None-clause-why : goal.returns-in-None-clause-why
returns-in-None-clause-why c =
    let zone = c.zone-item.result in
    (zone, refl, first_is c.args.zones.now c.zones.zone-index zone c.zones-test.true c.zone-item.is c.zones.invariant.placed c.in-None.ensures.none, refl)

pub zones-preserved : goal.zones-preserved
zones-preserved c =
    let zones = c.args.zones.now in
    let zone = c.zone-item.result in
    let got = c.in-Some.ensures.some in
    let was = c.zones.invariant in
    record {
      plans = c.push_reserved.ensures.items ∙ made_more in_place zones c.zones.zone-index zone c.zones.plans.items c.in-Some.plan c.zones-test.true was.plans (got.0 ∙ ap in_place c.zone-item.is);
      placed = placed_more zones c.zones.zone-index zone c.zones-test.true c.zone-item.is was.placed got.1;
      room = omega (arith, was.room, c.push_reserved.ensures.capacity);
    }

pub push_reserved-requires : goal.push_reserved-requires
push_reserved-requires c =
    omega (arith, made_so_far c.args.zones.now c.zones.zone-index c.zones.plans.items c.zones-test.true c.zones.invariant.plans, c.zones.plans.ok.0, c.zones.invariant.room, c.zones-test.true)
