use Rattle.zp_events.proofs.Options.{at_none}
use Rattle.zp_events.proofs.Colons.{NoneBeside}
use Rattle.zp_events.proofs.head.named_beside.Goals as goal

pub returns-in_err-name-clause-none : goal.returns-in_err-name-clause-none
returns-in_err-name-clause-none c =
    at_none _ {P = NoneBeside c.args.front.now c.args.rest.now} (λ cpu time name fields mark named. c.in_err-name.ensures.none name fields named)

pub returns-in_err-cpu-clause-none : goal.returns-in_err-cpu-clause-none
returns-in_err-cpu-clause-none c =
    at_none _ {P = NoneBeside c.args.front.now c.args.rest.now} (λ cpu time name fields mark named. c.in_err-cpu.ensures.none mark.place cpu time mark.mark)
