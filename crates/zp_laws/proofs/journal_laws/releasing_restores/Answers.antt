use Rattle.zp_laws.proofs.TakingBack.{release_restores}
use Rattle.zp_laws.proofs.journal_laws.releasing_restores.Goals as goal

pub returns : goal.returns
returns c = release_restores
