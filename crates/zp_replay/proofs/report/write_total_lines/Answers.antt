use Rattle.std.proofs.Common.{◌≡◌, ◌<◌, ◌≤◌, List, ◌++◌, get_or, length, ap, ap₂, ◌∙◌, arith}
use Rattle.std.specs.List.{flat_map, range_with_len}
use Rattle.std.proofs.lemmas.List.FromFn.{length-range_with_len}
use Rattle.std.proofs.lemmas.Result.{on_err_weaker, on_ok_weaker}
use Rattle.zp_streams.proofs.Written.{written-same, begun-same, on_err}
use Rattle.zp_text.proofs.Gathered.{begun_items, gathered-same, gathered_begun, gathered_item, gathered_written}
use Rattle.zp_share.specs.declared.gathering.Totals.{Totals}
use Rattle.std.proofs.lemmas.List.{length-map, take_all}
use Rattle.zp_share.specs.Shares.{named_zone}
use Rattle.zp_share.specs.Crews.{CrewState, crew_of}
use Rattle.zp_share.proofs.Crews.{crew_there}
use Rattle.zp_replay.specs.Output.{total_of}
use Rattle.zp_replay.proofs.Outputs.{gathered_here, length-gathered, number_here}
use Rattle.zp_replay.proofs.report.write_total_lines.Goals as goal

pub push_total-requires : goal.push_total-requires
push_total-requires g c =
    let i = c.loop-number.invariant in
    let many = length-gathered (crew_of c.gather-totals.new.self c.gather-totals.new.shares) _ i.totals in
    let place : c.loop-number.number < length c.gather-totals.new.self = omega (arith, c.len-number-end.ensures.value, many, length-map c.gather-totals.new.self named_zone) in
    let totals = ap (λ (ts : List Totals). get_or ts c.loop-number.number _) c.deref.ensures.0 ∙ gathered_here (crew_of c.gather-totals.new.self c.gather-totals.new.shares) _ c.loop-number.number _ i.totals (omega (arith, c.len-number-end.ensures.value, many)) in
    (omega arith, (place, (totals, c.in_ok-make_room.ensures.room)))

pub returns-in_err-make_room-clause-err : goal.returns-in_err-make_room-clause-err
returns-in_err-make_room-clause-err g c =
    let i = c.loop-number.invariant in
    on_err c.from_residual.result (begun_items (total_of (crew_of c.args.zones.now c.args.shares.now)) _ _ _ _ _ _ i.gathered c.in_err-make_room.ensures.err)

pub loop-number-preserved : goal.loop-number-preserved
loop-number-preserved g c =
    let i = c.loop-number.invariant in
    let same : crew_of c.gather-totals.new.self c.gather-totals.new.shares ≡ crew_of c.args.zones.now c.args.shares.now = ap₂ crew_of i.zones i.shares in
    let crew = crew_of c.args.zones.now c.args.shares.now in
    let at : c.loop-number.number < length crew.zones = omega (arith, c.len-number-end.ensures.value, length-gathered (crew_of c.gather-totals.new.self c.gather-totals.new.shares) _ i.totals, ap (λ (x : CrewState). length x.zones) same) in
    record {
      zones = i.zones;
      shares = i.shares;
      totals = i.totals;
      gathered = gathered_item (total_of crew) _ c.loop-number.number c.loop-number.number _ _ _ _ _ _ (omega (arith, at, length-range_with_len 0 (length crew.zones))) (number_here _ _ at) i.gathered
          c.in_ok-make_room.ensures.ok
          (c.push_total.ensures ∙ ap (λ (x : CrewState). c.make_room.new.text ++ total_of x c.loop-number.number) same);
      calm = c.in_ok-make_room.ensures.calm ∙ i.calm;
    }

pub returns-clause-ok : goal.returns-clause-ok
returns-clause-ok g c =
    let i = c.loop-number.invariant in
    let crew = crew_of c.args.zones.now c.args.shares.now in
    let many = length-gathered (crew_of c.gather-totals.new.self c.gather-totals.new.shares) _ i.totals in
    let same : crew_of c.gather-totals.new.self c.gather-totals.new.shares ≡ crew = ap₂ crew_of i.zones i.shares in
    let end : length (range_with_len 0 (length crew.zones)) ≤ c.loop-number.number =
    omega (arith, c.loop-number-test.false, c.len-number-end.ensures.value, many, ap (λ (x : CrewState). length x.zones) same, length-range_with_len 0 (length crew.zones)) in
    let all = gathered-same _ _ _ _ _ (ap (λ ns. flat_map (total_of crew) ns) (take_all c.loop-number.number (range_with_len 0 (length crew.zones)) end)) i.gathered in
    on_ok_weaker c.write_gathered.result (λ w. gathered_written _ _ _ _ _ all (written-same _ _ _ _ c.as_bytes.ensures w)) c.write_gathered.ensures.ok

pub returns-clause-err : goal.returns-clause-err
returns-clause-err g c =
    let i = c.loop-number.invariant in
    let crew = crew_of c.args.zones.now c.args.shares.now in
    let many = length-gathered (crew_of c.gather-totals.new.self c.gather-totals.new.shares) _ i.totals in
    let same : crew_of c.gather-totals.new.self c.gather-totals.new.shares ≡ crew = ap₂ crew_of i.zones i.shares in
    let end : length (range_with_len 0 (length crew.zones)) ≤ c.loop-number.number =
    omega (arith, c.loop-number-test.false, c.len-number-end.ensures.value, many, ap (λ (x : CrewState). length x.zones) same, length-range_with_len 0 (length crew.zones)) in
    let all = gathered-same _ _ _ _ _ (ap (λ ns. flat_map (total_of crew) ns) (take_all c.loop-number.number (range_with_len 0 (length crew.zones)) end)) i.gathered in
    on_err_weaker c.write_gathered.result (λ w. gathered_begun _ _ _ _ _ all (begun-same _ _ _ _ c.as_bytes.ensures w)) c.write_gathered.ensures.err

pub gather-totals-requires-clause-crew : goal.gather-totals-requires-clause-crew
gather-totals-requires-clause-crew g c = crew_there c.args.zones.now c.args.shares.now c.requires.shares
