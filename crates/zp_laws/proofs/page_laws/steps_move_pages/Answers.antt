use Rattle.zp_laws.proofs.StepMoves.{step_moves}
use Rattle.zp_laws.proofs.page_laws.steps_move_pages.Goals as goal

pub returns : goal.returns
returns c = λ z w q l d. step_moves z w q l d.0 d.1
