use Rattle.zp_model.proofs.RunGiven.{given_in_parts}
use Rattle.zp_laws.proofs.cut_laws.runs_come_in_parts.Goals as goal

pub returns : goal.returns
returns c = λ a h ns l out. given_in_parts a h ns l out
