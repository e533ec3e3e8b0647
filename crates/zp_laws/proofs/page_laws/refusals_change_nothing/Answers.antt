use Rattle.zp_laws.proofs.Refusals.{refusal-same}
use Rattle.zp_laws.proofs.page_laws.refusals_change_nothing.Goals as goal

pub returns : goal.returns
returns c = refusal-same
