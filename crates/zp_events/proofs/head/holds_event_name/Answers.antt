use Rattle.zp_events.proofs.HeldNames.{name_found, colon_passed, name_missing}
use Rattle.zp_events.proofs.head.holds_event_name.Goals as goal

pub returns-then-ends_in_name : goal.returns-then-ends_in_name
returns-then-ends_in_name c =
    name_found c.args.line.now c.colons.rest.now c.in-Some.front.now c.in-Some.behind.now c.colons.invariant c.in-Some.ensures.some.0 c.if-ends_in_name.ensures

pub colons-preserved : goal.colons-preserved
colons-preserved c =
    colon_passed c.args.line.now c.colons.rest.now c.in-Some.front.now c.in-Some.behind.now c.colons.invariant c.in-Some.ensures.some.0 c.in-Some.ensures.some.1 c.if-ends_in_name.ensures

pub returns : goal.returns
returns c = name_missing c.args.line.now c.colons.rest.now c.colons.invariant c.in_default.ensures.none
