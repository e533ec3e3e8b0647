use Rattle.std.proofs.Common.{◌≡◌, ◌∙◌, ap, arith, length, map}
use Rattle.std.specs.List.{range_with_len}
use Rattle.std.proofs.lemmas.Grind.{common_steps}
use Rattle.zp_office.proofs.CarriedOut.{counts-more, counts-all, shown-more}
use Rattle.zp_office.proofs.carrying_out.counts_in.Goals as goal

pub loop-zone-preserved : goal.loop-zone-preserved
loop-zone-preserved g c =
    let x = c.loop-zone.invariant in
    record {
      keys = c.counts.ensures.keys ∙ x.keys;
      count = grind (arith, common_steps);
      covered = λ i n covered. g.met.Z.Zones.covers_counted _ _ _ c.counts.ensures.read i n (x.covered i n covered);
      shown = c.push.ensures ∙ shown-more (g.Z.Zones.shown c.loop-zone.zones) (g.Z.Zones.shown c.counts.new.self) c.loop-zone.row c.loop-zone.zone c.counts.result x.shown c.counts.ensures.others c.counts.ensures.shown;
      told = λ rows e.
          let before = x.told rows e in
          let now = c.counts.ensures.told rows before.1 in
          (counts-more rows c.loop-zone.row c.push.new.self c.loop-zone.zone c.counts.result before.0 now.1 c.push.ensures, now.0);
    }

pub returns-clause-told : goal.returns-clause-told
returns-clause-told g c =
    λ rows e.
    let all = c.loop-zone.invariant.told rows e in
    (counts-all rows c.args.share.now c.loop-zone.row c.zones-zone-end.result c.loop-zone.zone c.zones-zone-end.ensures.zones c.loop-zone-test.false c.loop-zone.auto.zone-end all.0, all.1)

pub returns-clause-shown : goal.returns-clause-shown
returns-clause-shown g c =
    let all : c.loop-zone.zone ≡ length c.args.share.now.zones = omega (arith, c.zones-zone-end.ensures.zones, c.loop-zone-test.false, c.loop-zone.auto.zone-end) in
    c.loop-zone.invariant.shown ∙ ap (λ k. map (g.Z.Zones.shown c.loop-zone.zones) (range_with_len 0 k)) all
