use Rattle.zp_model.proofs.RunGiven.{left_in_parts}
use Rattle.zp_laws.proofs.cut_laws.runs_leave_in_parts.Goals as goal

pub returns : goal.returns
returns c = λ a h ns l. left_in_parts a h ns l
