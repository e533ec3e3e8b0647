use Rattle.std.proofs.Common.{◌∙◌}
use Rattle.zp_pictures.proofs.Counted.{largest_more}
use Rattle.zp_pictures.proofs.pagetypeinfo.largest_of.Goals as goal

pub loop-zone-preserved : goal.loop-zone-preserved
loop-zone-preserved c =
    let here = c.order.ensures ∙ c.largest.ensures in
    largest_more c.args.zones.now c.loop-zone.zone-index c.zone-item.result _ _ _ c.loop-zone-test.true c.zone-item.is c.loop-zone.invariant here
    c.larger-largest.ensures
