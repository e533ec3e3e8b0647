use Rattle.zp_laws.proofs.RunBooks.{run_step_lent}
use Rattle.zp_laws.proofs.run_laws.run_steps_move_lent.Goals as goal

pub returns : goal.returns
returns c = λ z w q p l d r. run_step_lent z w q p l d.0 d.1 r
