use Rattle.std.proofs.Common.{arith}
use Rattle.zp_states.specs.Replays.{office_at}
use Rattle.zp_pictures.proofs.Counted.{counts_more, pushed}
use Rattle.zp_pictures.proofs.pagetypeinfo.all_counts.Goals as goal

pub loop-zone-preserved : goal.loop-zone-preserved
loop-zone-preserved c =
    let zones = (office_at c.args.replay.now).zones in
    let more = pushed _ _ _ _ _ _ _ c.map_err.ensures.cases c.in_ok-map_err.was c.push.ensures.items in
    counts_more zones c.loop-zone.zone _ _ _ (omega (arith, c.loop-zone-test.true, c.zone_count-zone-end.ensures)) c.loop-zone.invariant c.counts_of.ensures more
