use Rattle.std.proofs.Common.{◌/◌, refl, arith}
use Rattle.zp_buddy.specs.Choices.{area_in}
use Rattle.zp_buddy.proofs.Groups.{stops_at, whole_at_hand}
use Rattle.zp_buddy.proofs.Settled.{length-pages}
use Rattle.zp_buddy.proofs.Taking.{at_hand}
use Rattle.zp_buddy.proofs.buddy.Buddy.whole_until.Goals as goal

pub whole_until-requires-clause-inside : goal.whole_until-requires-clause-inside
whole_until-requires-clause-inside c = omega (arith, rw (← c.self.view_is) at c.requires.inside, length-pages c.self.inside.area.rows.states)

pub returns-clause-pages : goal.returns-clause-pages
returns-clause-pages c =
    let a = c.self.inside.area in
    rw (← c.self.view_is)
    (whole_at_hand (area_in a.largest a) (c.args.from / 1024) c.whole_until.result c.args.from refl (rw (at_hand a.largest a c.self.invariant.sound) c.whole_until.ensures.whole))

pub returns-then-from-ne0-clause-stops : goal.returns-then-from-ne0-clause-stops
returns-then-from-ne0-clause-stops c top border room all = c.if-from-ne0.true border

pub returns-clause-stops : goal.returns-clause-stops
returns-clause-stops c =
    let a = c.self.inside.area in
    rw (← c.self.view_is)
    (λ top border room all. stops_at (area_in a.largest a) c.whole_until.result c.args.end (rw (at_hand a.largest a c.self.invariant.sound) c.whole_until.ensures.stops) top room all)
