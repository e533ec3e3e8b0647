use Rattle.zp_model.specs.Choose.{origin}
use Rattle.zp_buddy.proofs.Choosing.{own_front}
use Rattle.zp_buddy.proofs.choice.origin.Goals as goal

pub returns-in-Some-clause-answer : goal.returns-in-Some-clause-answer
unfolding origin
returns-in-Some-clause-answer c = rw (← own_front c.args.area.now.largest c.args.area.now c.args.order c.args.kind, c.in-Some.ensures.0)

pub returns-in-Some-claimed_block-clause-answer : goal.returns-in-Some-claimed_block-clause-answer
unfolding origin
returns-in-Some-claimed_block-clause-answer c =
    rw (← own_front c.args.area.now.largest c.args.area.now c.args.order c.args.kind, c.in_default.ensures, c.in-Some-claimed_block.ensures.answer.0)

pub returns-in-Some-borrowed_block-clause-answer : goal.returns-in-Some-borrowed_block-clause-answer
unfolding origin
returns-in-Some-borrowed_block-clause-answer c =
    let b = rw c.in_default-claimed_block.ensures.same at c.in-Some-borrowed_block.ensures in
    rw (← own_front c.args.area.now.largest c.args.area.now c.args.order c.args.kind, c.in_default.ensures, c.in_default-claimed_block.ensures.answer, b.0)

pub returns-clause-answer : goal.returns-clause-answer
unfolding origin
returns-clause-answer c =
    let b = rw c.in_default-claimed_block.ensures.same at c.in_default-borrowed_block.ensures in
    rw (← own_front c.args.area.now.largest c.args.area.now c.args.order c.args.kind, c.in_default.ensures, c.in_default-claimed_block.ensures.answer, b)
