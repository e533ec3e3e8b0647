use Rattle.zp_laws.proofs.Opening.{opening_lawful}
use Rattle.zp_laws.proofs.zone_laws.opening_is_lawful.Goals as goal

pub returns : goal.returns
returns c = opening_lawful
