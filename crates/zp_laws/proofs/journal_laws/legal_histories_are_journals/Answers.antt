use Rattle.zp_laws.proofs.Replaying.{history_journal}
use Rattle.zp_laws.proofs.journal_laws.legal_histories_are_journals.Goals as goal

pub returns : goal.returns
returns c = history_journal
