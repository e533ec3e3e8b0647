use Rattle.zp_laws.proofs.Choosing.{choose_passes}
use Rattle.zp_laws.proofs.zone_laws.choosing_passes_isolated.Goals as goal

pub returns : goal.returns
returns c = choose_passes
