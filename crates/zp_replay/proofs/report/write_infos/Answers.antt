use Rattle.std.proofs.Common.{◌<◌, ◌≤◌, ◌++◌, length, map, refl, ap, ◌∙◌, arith}
use Rattle.std.specs.List.{flat_map}
use Rattle.std.proofs.lemmas.List.{length-map, take_all}
use Rattle.std.proofs.lemmas.Result.{on_err_weaker, on_ok_weaker}
use Rattle.zp_share.specs.Shares.{named_zone}
use Rattle.zp_info.proofs.InfoLines.{info_line-same}
use Rattle.zp_streams.proofs.Written.{begun-same, on_err, written-same}
use Rattle.zp_text.proofs.Gathered.{begun_items, gathered-same, gathered_begun, gathered_item, gathered_written, none_gathered}
use Rattle.zp_replay.specs.Replies.{info_of}
use Rattle.zp_replay.proofs.Infos.{named_place, named_there}
use Rattle.zp_replay.proofs.report.write_infos.Goals as goal

pub loop-zone-init : goal.loop-zone-init
loop-zone-init g c = record { gathered = none_gathered _ _ c.new-text.ensures; calm = refl }

pub returns-in_err-make_room-clause-err : goal.returns-in_err-make_room-clause-err
returns-in_err-make_room-clause-err g c =
    on_err c.from_residual.result (begun_items info_of (map named_zone c.args.zones.now) _ _ _ _ _ c.loop-zone.invariant.gathered c.in_err-make_room.ensures.err)

pub loop-zone-preserved : goal.loop-zone-preserved
loop-zone-preserved g c =
    let at : c.loop-zone.zone-index < length c.args.zones.now = omega arith in
    record {
      gathered = gathered_item info_of (map named_zone c.args.zones.now) _ _ _ _ _ _ _ _ (named_place c.args.zones.now c.loop-zone.zone-index at) (named_there c.args.zones.now c.loop-zone.zone-index _ c.zone-item.is) c.loop-zone.invariant.gathered
          c.in_ok-make_room.ensures.ok
          (c.push_counts.ensures.bytes ∙ ap (λ q. c.make_room.new.text ++ q) (info_line-same _ _ _ _ _ _ c.name.ensures.name c.largest.ensures c.counts.ensures.counts));
      calm = c.in_ok-make_room.ensures.calm ∙ c.loop-zone.invariant.calm;
    }

pub returns-clause-ok : goal.returns-clause-ok
returns-clause-ok g c =
    let end : length (map named_zone c.args.zones.now) ≤ c.loop-zone.zone-index = omega (arith, length-map c.args.zones.now named_zone) in
    let all = gathered-same _ _ _ _ _ (ap (λ zs. flat_map info_of zs) (take_all c.loop-zone.zone-index (map named_zone c.args.zones.now) end)) c.loop-zone.invariant.gathered in
    on_ok_weaker c.write_gathered.result (λ w. gathered_written _ _ _ _ _ all (written-same _ _ _ _ c.as_bytes.ensures w)) c.write_gathered.ensures.ok

pub returns-clause-err : goal.returns-clause-err
returns-clause-err g c =
    let end : length (map named_zone c.args.zones.now) ≤ c.loop-zone.zone-index = omega (arith, length-map c.args.zones.now named_zone) in
    let all = gathered-same _ _ _ _ _ (ap (λ zs. flat_map info_of zs) (take_all c.loop-zone.zone-index (map named_zone c.args.zones.now) end)) c.loop-zone.invariant.gathered in
    on_err_weaker c.write_gathered.result (λ w. gathered_begun _ _ _ _ _ all (begun-same _ _ _ _ c.as_bytes.ensures w)) c.write_gathered.ensures.err
