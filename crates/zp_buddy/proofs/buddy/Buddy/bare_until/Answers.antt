use Rattle.std.proofs.Common.{◌/◌, ◌≤◌, refl, arith, min}
use Rattle.zp_model.specs.declared.constants.TheConstants.{LARGEST_ORDER}
use Rattle.zp_buddy.specs.Choices.{area_in}
use Rattle.zp_buddy.proofs.Groups.{bare_to, block_from}
use Rattle.zp_buddy.proofs.Settled.{length-pages}
use Rattle.zp_buddy.proofs.Taking.{at_hand}
use Rattle.zp_buddy.proofs.buddy.Buddy.bare_until.Goals as goal

pub returns-clause-bare : goal.returns-clause-bare
returns-clause-bare c =
    let a = c.self.inside.area in
    let few : a.largest ≤ LARGEST_ORDER = omega (arith, c.largest.ensures, c.number-largest.ensures.same, c.number-largest.ensures.within.1) in
    rw (← c.self.view_is)
    (bare_to (area_in a.largest a) c.args.order (c.args.from / 1024) c.bare_until.result c.args.from few refl (rw (at_hand a.largest a c.self.invariant.sound) c.bare_until.ensures.bare))

pub returns-clause-stops : goal.returns-clause-stops
returns-clause-stops c =
    let a = c.self.inside.area in
    rw (← c.self.view_is)
    (λ below.
    block_from (area_in a.largest a) (min c.args.order 5) c.bare_until.result
    (rw (at_hand a.largest a c.self.invariant.sound) (c.bare_until.ensures.stops (omega (arith, below, length-pages a.rows.states)))))
