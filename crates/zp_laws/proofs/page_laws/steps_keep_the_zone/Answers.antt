use Rattle.zp_laws.proofs.Sameness.{step-same}
use Rattle.zp_laws.proofs.page_laws.steps_keep_the_zone.Goals as goal

pub returns : goal.returns
returns c = step-same
