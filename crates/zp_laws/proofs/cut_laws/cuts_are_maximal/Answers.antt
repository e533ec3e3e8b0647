use Rattle.zp_model.proofs.CutMaximal.{cut_is_maximal}
use Rattle.zp_laws.proofs.cut_laws.cuts_are_maximal.Goals as goal

pub returns : goal.returns
returns c = λ m pages h n le g k. cut_is_maximal m pages h n le g k
