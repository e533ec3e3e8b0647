use Rattle.zp_laws.proofs.Steps.{run_lawful}
use Rattle.zp_laws.proofs.zone_laws.runs_keep_lawful.Goals as goal

pub returns : goal.returns
returns c = run_lawful
