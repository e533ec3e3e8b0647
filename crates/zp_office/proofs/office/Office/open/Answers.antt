use Rattle.std.proofs.Common.{sym, subst, ◌∙◌}
use Rattle.zp_office.specs.Offices.{OfficeState, HaveCommands, workers_in}
use Rattle.zp_office.proofs.OpenedDesks.{office_is, turns_there}
use Rattle.zp_office.proofs.office.Office.open.Goals as goal

pub returns-clause-turns : goal.returns-clause-turns
returns-clause-turns c =
    subst (λ (o : OfficeState). HaveCommands o (workers_in c.args.trace.now.commands))
    (sym (c.new.ensures ∙ office_is c.args.trace.now c.in_ok-zones.zones.items c.in_ok-zones.desks.items c.in_ok-zones.ensures.zones c.in_ok-zones.ensures.desks))
    (turns_there c.args.trace.now c.requires)
