use Rattle.zp_model.specs.Choose.{choose}
use Rattle.zp_buddy.proofs.choice.foreign_choice.Goals as goal

pub returns-in-Some-clause-answer : goal.returns-in-Some-clause-answer
unfolding choose
returns-in-Some-clause-answer c = let x = c.in-Some.ensures.answer in (rw (c.requires, x.0), x.1)

pub returns-in_err-block-clause-answer : goal.returns-in_err-block-clause-answer
unfolding choose
returns-in_err-block-clause-answer c = rw (c.from_residual.ensures, c.requires, c.in_default.ensures.answer, rw c.in_default.ensures.same at c.in_err-block.ensures)

pub returns-clause-answer : goal.returns-clause-answer
unfolding choose
returns-clause-answer c =
    let x = rw c.in_default.ensures.same at c.in_ok-block.ensures in
    (rw (c.requires, c.in_default.ensures.answer, x.0), x.1)
