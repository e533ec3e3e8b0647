use Rattle.zp_laws.proofs.Settling.{settle_lists}
use Rattle.zp_laws.proofs.zone_laws.settling_lists_the_area.Goals as goal

pub returns : goal.returns
returns c = settle_lists
