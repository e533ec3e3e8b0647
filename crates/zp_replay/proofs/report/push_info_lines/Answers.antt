use Rattle.std.proofs.Common.{◌<◌, ◌∙◌, ◌++◌, get_or, length, map, refl, ap, arith}
use Rattle.std.specs.List.{flat_map, zip}
use Rattle.std.proofs.lemmas.List.{take_all, length-map}
use Rattle.std.proofs.lemmas.Slice.Zip.{length-zip}
use Rattle.zp_share.specs.Shares.{named_zone}
use Rattle.zp_info.proofs.InfoLines.{info_line-same}
use Rattle.zp_text.proofs.Appended.{appended_item}
use Rattle.zp_replay.proofs.Infos.{line_of, no_counts, pair_place, pair_there}
use Rattle.zp_replay.proofs.report.push_info_lines.Goals as goal

pub loop-at-preserved : goal.loop-at-preserved
loop-at-preserved g c =
    let zone : c.loop-at.at < length c.args.zones.now = omega (arith, c.loop-at-test.true, c.min-at-end.ensures) in
    let counted : c.loop-at.at < length c.args.counts.now = omega (arith, c.loop-at-test.true, c.min-at-end.ensures) in
    record {
      bytes = appended_item line_of _ _ _ _ _ _ (pair_place c.args.zones.now c.args.counts.now c.loop-at.at zone counted) (pair_there c.args.zones.now c.args.counts.now c.loop-at.at _ zone counted c.index-zones-at.is) c.loop-at.invariant.bytes
          (c.push_counts.ensures.bytes ∙ ap (λ q. c.loop-at.text ++ q) (info_line-same _ _ _ _ (get_or c.args.counts.now c.loop-at.at no_counts) _ c.name.ensures.name c.largest.ensures refl));
      len = omega (arith, c.loop-at.invariant.len, c.push_counts.ensures.len);
    }

pub returns : goal.returns
returns g c =
    let pairs = zip (map named_zone c.args.zones.now) c.args.counts.now in
    c.loop-at.invariant.bytes
    ∙ ap (λ ps. c.args.text.now ++ flat_map line_of ps)
    (take_all c.loop-at.at pairs (omega (arith, c.loop-at-test.false, c.min-at-end.ensures, length-zip (map named_zone c.args.zones.now) c.args.counts.now, length-map c.args.zones.now named_zone)))
