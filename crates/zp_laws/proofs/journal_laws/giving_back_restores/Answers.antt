use Rattle.zp_laws.proofs.TakingBack.{give_restores}
use Rattle.zp_laws.proofs.journal_laws.giving_back_restores.Goals as goal

pub returns : goal.returns
returns c = give_restores
