use Rattle.std.proofs.Common.{arith}
use Rattle.zp_buddy.proofs.JoinBlocks.{size-le}
use Rattle.zp_buddy.proofs.buddy.Buddy.give_run.Goals as goal

pub overflow_add-self : goal.overflow_add-self
overflow_add-self c = omega (arith, c.self.invariant.counted, c.give_falling.ensures.size, size-le c.give_falling.new.area.rows.states, c.give_falling.ensures.sound.pages)
