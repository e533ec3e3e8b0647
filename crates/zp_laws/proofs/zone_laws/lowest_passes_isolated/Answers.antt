use Rattle.zp_laws.proofs.Choosing.{take_low_passes}
use Rattle.zp_laws.proofs.zone_laws.lowest_passes_isolated.Goals as goal

pub returns : goal.returns
returns c = take_low_passes
