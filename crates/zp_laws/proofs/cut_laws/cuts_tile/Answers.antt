use Rattle.zp_model.proofs.Cuts.{cut_tiles}
use Rattle.zp_laws.proofs.cut_laws.cuts_tile.Goals as goal

pub returns : goal.returns
returns c = λ m h n. cut_tiles m h n
