use Rattle.zp_events.proofs.Options.{at_none}
use Rattle.zp_events.proofs.Marks.{NoName, no_names}
use Rattle.zp_events.proofs.head.plain_name.Goals as goal

pub returns-in_err-rest-clause-none : goal.returns-in_err-rest-clause-none
returns-in_err-rest-clause-none c =
    at_none _ {P = NoName c.args.text.now} (no_names c.args.text.now c.in_default.ensures.none c.in_default-behind.ensures.none c.in_err-rest.ensures.none)
