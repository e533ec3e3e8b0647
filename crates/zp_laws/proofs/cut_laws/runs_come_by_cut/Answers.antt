use Rattle.zp_model.proofs.RunGiven.{given_by_cut}
use Rattle.zp_laws.proofs.cut_laws.runs_come_by_cut.Goals as goal

pub returns : goal.returns
returns c = λ a h n l out. given_by_cut a h n l out
