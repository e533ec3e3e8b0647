use Rattle.zp_laws.proofs.Histories.{history_more}
use Rattle.zp_laws.proofs.journal_laws.histories_go_on.Goals as goal

pub returns : goal.returns
returns c = history_more
