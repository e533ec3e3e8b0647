use Rattle.std.proofs.Common.{◌-◌, arith}
use Rattle.zp_buddy.proofs.LastOrders.{last_fits}
use Rattle.zp_buddy.proofs.falling.last_order.Goals as goal

pub returns : goal.returns
returns c =
    last_fits c.args.largest c.args.end (c.args.end - c.args.from) c.at.result (omega (arith, c.requires)) (omega (arith, c.ranges.end)) (omega (arith, c.requires)) (omega (arith, c.ranges.end))
    (omega (arith, c.at.ensures))
