use Rattle.zp_laws.proofs.Steps.{step_lawful}
use Rattle.zp_laws.proofs.zone_laws.steps_keep_lawful.Goals as goal

pub returns : goal.returns
returns c = λ z w q l d. step_lawful z w q l d.0 d.1
