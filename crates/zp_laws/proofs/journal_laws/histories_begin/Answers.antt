use Rattle.zp_laws.proofs.Histories.{opening_history}
use Rattle.zp_laws.proofs.journal_laws.histories_begin.Goals as goal

pub returns : goal.returns
returns c = opening_history
