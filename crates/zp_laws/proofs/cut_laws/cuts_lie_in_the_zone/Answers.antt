use Rattle.zp_model.proofs.Cuts.{cut_in_zone}
use Rattle.zp_laws.proofs.cut_laws.cuts_lie_in_the_zone.Goals as goal

pub returns : goal.returns
returns c = λ m pages h n le. cut_in_zone m pages h n le
