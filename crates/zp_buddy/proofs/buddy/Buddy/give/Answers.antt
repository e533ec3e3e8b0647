use Rattle.std.proofs.Common.{arith}
use Rattle.zp_buddy.proofs.JoinBlocks.{size-le}
use Rattle.zp_buddy.proofs.buddy.Buddy.give.Goals as goal

pub overflow_add-self : goal.overflow_add-self
overflow_add-self c =
    omega (arith, c.self.invariant.counted, c.join.ensures.size, c.pages.ensures.pages, size-le c.join.new.area.rows.states, c.join.ensures.sound.pages)
