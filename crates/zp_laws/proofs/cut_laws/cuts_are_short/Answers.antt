use Rattle.zp_model.proofs.Cuts.{cut_length}
use Rattle.zp_laws.proofs.cut_laws.cuts_are_short.Goals as goal

pub returns : goal.returns
returns c = λ m h n. cut_length m h n
