use Rattle.zp_laws.proofs.Replaying.{journal_replays}
use Rattle.zp_laws.proofs.journal_laws.journals_replay.Goals as goal

pub returns : goal.returns
returns c = journal_replays
