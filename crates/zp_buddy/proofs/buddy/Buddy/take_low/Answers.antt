use Rattle.std.proofs.Common.{length, arith, ap, sym, ◌∙◌}
use Rattle.zp_model.specs.Area.{pageblocks_of}
use Rattle.zp_model.specs.Take.{take_low_after, take_low_answer}
use Rattle.zp_buddy.proofs.Taking.{clear_head, fewer, frames_stay, lowest_at, may_return, noted_back, run_left, still_may}
use Rattle.zp_buddy.proofs.buddy.Buddy.take_low.Goals as goal

pub returns-in_err-head-clause-answer : goal.returns-in_err-head-clause-answer
unfolding take_low_answer
returns-in_err-head-clause-answer c =
    rw (c.from_residual.ensures, ← c.self.view_is, lowest_at c.self.inside.area.largest c.self.inside.area c.args.order c.self.invariant.sound, ← c.in_err-head.ensures.answer)

pub returns-in_err-head-clause-after : goal.returns-in_err-head-clause-after
unfolding take_low_after take_low_answer
returns-in_err-head-clause-after c =
    let a = c.self.inside.area in
    rw (c.in_err-head.ensures.same, ← c.self.view_is, lowest_at c.self.inside.area.largest a c.args.order c.self.invariant.sound, ← c.in_err-head.ensures.answer) (frames_stay c.self.inside.area.largest a c.self.invariant.sound)

pub overflow_sub-self : goal.overflow_sub-self
overflow_sub-self c =
    let x = run_left c.take_block.new.area c.in_ok-head.head c.in_ok-head.found c.args.order c.self.invariant c.in_ok-head.ensures.found.0 c.in_ok-head.ensures.found.1 (rw c.in_ok-head.ensures.same at c.take_block.ensures.after) in
    omega (arith, fewer x, c.pages-pages.ensures.pages)

pub invariant_of-self-3 : goal.invariant_of-self-3
invariant_of-self-3 c =
    let x = run_left c.take_block.new.area c.in_ok-head.head c.in_ok-head.found c.args.order c.self.invariant c.in_ok-head.ensures.found.0 c.in_ok-head.ensures.found.1 (rw c.in_ok-head.ensures.same at c.take_block.ensures.after) in
    let sound = rw c.in_ok-head.ensures.same at c.take_block.ensures.sound in
    let kinds = rw c.in_ok-head.ensures.same at c.take_block.ensures.kinds in
    let pages = rw c.in_ok-head.ensures.same at c.take_block.ensures.pages in
    rw (c.take_block.ensures.largest, c.in_ok-head.ensures.same) (record {
      sound = sound;
      typed = ap length kinds ∙ c.self.invariant.typed ∙ ap (pageblocks_of c.self.inside.area.largest) (sym pages);
      counted = omega (arith, fewer x, c.pages-pages.ensures.pages);
    })

pub returns-clause-answer : goal.returns-clause-answer
unfolding take_low_answer
returns-clause-answer c = rw (← c.self.view_is, lowest_at c.self.inside.area.largest c.self.inside.area c.args.order c.self.invariant.sound, ← c.in_ok-head.ensures.answer)

pub returns-clause-after : goal.returns-clause-after
unfolding take_low_after take_low_answer
returns-clause-after c =
    rw (← c.self.view_is, lowest_at c.self.inside.area.largest c.self.inside.area c.args.order c.self.invariant.sound, ← c.in_ok-head.ensures.answer, c.take_block.ensures.largest, c.in_ok-head.ensures.same) (rw c.in_ok-head.ensures.same at c.take_block.ensures.after)

pub returns-clause-clear : goal.returns-clause-clear
returns-clause-clear c =
    rw (c.take_block.ensures.largest, c.in_ok-head.ensures.same) (may_return c.args.order c.in_ok-head.ensures.found.1 (run_left c.take_block.new.area c.in_ok-head.head c.in_ok-head.found c.args.order c.self.invariant c.in_ok-head.ensures.found.0 c.in_ok-head.ensures.found.1 (rw c.in_ok-head.ensures.same at c.take_block.ensures.after)))

pub returns-clause-kept : goal.returns-clause-kept
returns-clause-kept c =
    rw (← c.self.view_is, c.take_block.ensures.largest, c.in_ok-head.ensures.same)
    (still_may (run_left c.take_block.new.area c.in_ok-head.head c.in_ok-head.found c.args.order c.self.invariant c.in_ok-head.ensures.found.0 c.in_ok-head.ensures.found.1 (rw c.in_ok-head.ensures.same at c.take_block.ensures.after)))

pub returns-clause-head : goal.returns-clause-head
returns-clause-head c = clear_head c.take_block.new.area.largest c.take_block.new.area c.in_ok-head.head c.args.order (returns-clause-clear c)

pub take_block-requires-clause-typed : goal.take_block-requires-clause-typed
take_block-requires-clause-typed c =
    rw (c.noted-kind.ensures, c.type_of.ensures, c.in_ok-head.ensures.same) (noted_back _ c.in_ok-head.ensures.open)
