use Rattle.zp_model.proofs.RunGiven.{left_by_cut}
use Rattle.zp_laws.proofs.cut_laws.runs_leave_by_cut.Goals as goal

pub returns : goal.returns
returns c = λ a h n l. left_by_cut a h n l
