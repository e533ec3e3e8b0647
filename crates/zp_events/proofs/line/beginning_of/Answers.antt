use Rattle.zp_events.proofs.Colons.{colon_passed, beginning_found, none_left}
use Rattle.zp_events.proofs.line.beginning_of.Goals as goal

pub colons-preserved : goal.colons-preserved
colons-preserved c =
    colon_passed c.args.line.now c.colons.rest.now c.in-Some.before.now c.in-Some.behind.now c.colons.invariant c.in-Some.ensures.some.0 c.in-Some.ensures.some.1 c.in_default-named_beside.ensures.none

pub returns-in-Some-named_beside-clause-some : goal.returns-in-Some-named_beside-clause-some
returns-in-Some-named_beside-clause-some c =
    let named = c.in-Some-named_beside.ensures in
    beginning_found c.args.line.now c.colons.rest.now c.in-Some.before.now c.in-Some.behind.now c.in-Some-named_beside.cpu c.in-Some-named_beside.name c.in-Some-named_beside.fields.now named.mark.0
    c.colons.invariant c.in-Some.ensures.some.0 c.in-Some.ensures.some.1 named.mark.1 named.name

pub returns-clause-none : goal.returns-clause-none
returns-clause-none c = none_left c.args.line.now c.colons.rest.now c.colons.invariant c.in_default.ensures.none
