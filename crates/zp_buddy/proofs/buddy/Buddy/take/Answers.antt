use Rattle.std.proofs.Common.{◌^◌, arith, ap, sym, ◌∙◌}
use Rattle.zp_model.specs.Area.{pageblocks_of}
use Rattle.zp_model.specs.Take.{taken, take_after, take_answer}
use Rattle.zp_buddy.proofs.Taking.{IsRunTaken, clear_head, fewer, frames_stay, may_return, run_taken, still_may}
use Rattle.zp_buddy.proofs.buddy.Buddy.take.Goals.{After-pages}
use Rattle.zp_buddy.proofs.buddy.Buddy.take.Goals as goal

-- the block that is chosen has left the area
run : (c : After-pages) → IsRunTaken c.self.inside.area.largest c.self.inside.area c.self.inside.free c.in_ok-head.head c.in_ok-head.ensures.0.block.order (2 ^ c.args.order) c.take.new.area
run c = let x = c.in_ok-head.ensures in rw x.1 (run_taken c.take.new.area _ x.0 c.self.invariant x.2.block x.2.after)

pub returns-in_err-head-clause-answer : goal.returns-in_err-head-clause-answer
unfolding take_answer
returns-in_err-head-clause-answer c = rw (c.from_residual.ensures, ← c.self.view_is, c.in_err-head.ensures.0)

pub returns-in_err-head-clause-after : goal.returns-in_err-head-clause-after
unfolding take_after taken
returns-in_err-head-clause-after c = rw (← c.self.view_is, c.in_err-head.ensures.0, c.in_err-head.ensures.1) (frames_stay c.self.inside.area.largest c.self.inside.area c.self.invariant.sound)

pub overflow_sub-self : goal.overflow_sub-self
overflow_sub-self c = omega (arith, fewer (run (goal.at.overflow_sub-self c).After-pages), c.pages.ensures.pages)

pub invariant_of-self-2 : goal.invariant_of-self-2
invariant_of-self-2 c =
    let x = c.in_ok-head.ensures.2 in
    rw x.largest (record {
      sound = x.sound;
      typed = x.typed ∙ c.self.invariant.typed ∙ ap (pageblocks_of c.self.inside.area.largest) (sym x.pages);
      counted = omega (arith, fewer (run (goal.at.invariant_of-self-2 c).After-pages), c.pages.ensures.pages);
    })

pub returns-clause-answer : goal.returns-clause-answer
unfolding take_answer
returns-clause-answer c = let x = c.in_ok-head.ensures in rw (← c.self.view_is, x.2.chosen, x.1)

pub returns-clause-after : goal.returns-clause-after
unfolding take_after
returns-clause-after c = let x = c.in_ok-head.ensures.2 in rw (← c.self.view_is, x.chosen, x.largest) x.after

pub returns-clause-clear : goal.returns-clause-clear
returns-clause-clear c = rw c.in_ok-head.ensures.2.largest (may_return c.args.order c.in_ok-head.ensures.2.block.enough (run (goal.at.returns-clause-clear c).After-pages))

pub returns-clause-kept : goal.returns-clause-kept
returns-clause-kept c = rw (← c.self.view_is, c.in_ok-head.ensures.2.largest) (still_may (run (goal.at.returns-clause-kept c).After-pages))

pub returns-clause-head : goal.returns-clause-head
returns-clause-head c = clear_head c.take.new.area.largest c.take.new.area c.in_ok-head.head c.args.order (returns-clause-clear c)
