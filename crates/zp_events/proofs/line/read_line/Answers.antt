use Rattle.zp_events.proofs.Readings.{other_says, broken_says, event_says}
use Rattle.zp_events.proofs.line.read_line.Goals as goal

pub returns-in_default : goal.returns-in_default
returns-in_default c =
    let said = other_says c.args.line.now c.in_default.ensures.none in
    record { event = said.event; broken = said.broken; other = said.other }

pub returns-in_default-action_of : goal.returns-in_default-action_of
returns-in_default-action_of c =
    let said = broken_says c.args.line.now c.in-Some.cpu c.in-Some.name c.in-Some.fields.now c.in-Some.ensures.some c.in_default-action_of.ensures.none in
    record { event = said.event; broken = said.broken; other = said.other }

pub returns : goal.returns
returns c =
    let said = event_says c.args.line.now (record { cpu = c.in-Some.cpu; action = c.in-Some-action_of.action }) c.in-Some.name c.in-Some.fields.now c.in-Some.ensures.some c.in-Some-action_of.ensures.some in
    record { event = said.event; broken = said.broken; other = said.other }
