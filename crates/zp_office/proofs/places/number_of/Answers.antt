use Rattle.std.proofs.Common.{arith}
use Rattle.zp_office.proofs.Placing.{number_here, number_nowhere}
use Rattle.zp_office.proofs.places.number_of.Goals as goal

pub returns-then-is_named : goal.returns-then-is_named
returns-then-is_named c =
    omega (arith, number_here c.args.zones.now c.args.name c.loop-place.place c.index-zones-place.result c.is_named.result c.loop-place-test.true c.index-zones-place.is c.loop-place.invariant c.is_named.ensures c.if-is_named.true)

pub returns : goal.returns
returns c = number_nowhere c.args.zones.now c.args.name c.loop-place.place c.loop-place-test.false c.loop-place.invariant
