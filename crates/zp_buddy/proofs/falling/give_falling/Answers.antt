use Rattle.std.proofs.Common.{arith}
use Rattle.zp_buddy.proofs.GivingAs.{giving_ends}
use Rattle.zp_buddy.proofs.Settled.{length-pages}
use Rattle.zp_buddy.proofs.falling.give_falling.Goals as goal

pub overflow_add-end : goal.overflow_add-end
overflow_add-end c = omega (arith, c.number-from.ensures.same, c.requires.clear.inside, length-pages c.args.area.now.rows.states, c.requires.sound.pages)

pub returns-clause-after : goal.returns-clause-after
returns-clause-after c =
    giving_ends c.args.area.now.largest c.args.area.now c.parts.area c.args.at c.args.pages c.parts.end (rw c.number-from.ensures.same at c.parts.invariant.same) (omega (arith, c.parts-test.false, c.number-from.ensures.same))
