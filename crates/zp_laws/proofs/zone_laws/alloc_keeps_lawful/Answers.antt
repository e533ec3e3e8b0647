use Rattle.zp_laws.proofs.Steps.{alloc_lawful}
use Rattle.zp_laws.proofs.zone_laws.alloc_keeps_lawful.Goals as goal

pub returns : goal.returns
returns c = alloc_lawful
