use Rattle.zp_model.specs.declared.constants.TheConstants.{MAX_ZONES}
use Rattle.zp_share.specs.Shares.{no_seat}
use Rattle.zp_share.proofs.Closing.{opened_fit, opened_short, first_worker}
use Rattle.zp_share.proofs.share.Share.new.Goals as goal

pub invariant_of-result : goal.invariant_of-result
invariant_of-result c =
    let fit =
    opened_fit c.args.seats.items c.loop-seat.yielded c.loop-seat.seat-iterator.rest.items c.loop-seat.zones.items c.worker-worker.result MAX_ZONES
    c.loop-seat.invariant.0 c.loop-seat.invariant.1.0 c.requires.few
    (first_worker c.args.seats.items c.index.result.now c.worker-worker.result no_seat c.requires.some c.index.ensures c.worker-worker.ensures c.requires.worker) in
    (fit.0, fit.1, opened_short c.loop-seat.yielded c.loop-seat.zones.items c.args.lists.high_len c.loop-seat.invariant.0)
