use Rattle.std.proofs.Common.{◌∙◌, ap, length}
use Rattle.zp_office.specs.Offices.{OfficeState, workers_in}
use Rattle.zp_replay.proofs.ServedOffices.{opened_length, order_length}
use Rattle.zp_replay.proofs.serial.serve_in_order.Goals as goal

pub returns-clause-workers : goal.returns-clause-workers
returns-clause-workers c =
    ap (λ (o : OfficeState). length o.desks) c.carry_out_all.ensures
    ∙ order_length c.in-Ok.office (workers_in c.as_slice.result.now)
    ∙ ap (λ (o : OfficeState). length o.desks) c.in-Ok.ensures.office
    ∙ opened_length c.args.trace.now
