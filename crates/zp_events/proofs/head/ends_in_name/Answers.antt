use Rattle.zp_events.proofs.HeldNames.{no_end}
use Rattle.zp_events.proofs.head.ends_in_name.Goals as goal

pub returns : goal.returns
returns c = no_end c.args.text.now c.in_default.ensures.none c.in_default-before.ensures.none c.in_default-before-2.ensures.none
