use Rattle.zp_laws.proofs.ChoosingAny.{choose_none}
use Rattle.zp_laws.proofs.zone_laws.choosing_misses_none.Goals as goal

pub returns : goal.returns
returns c = choose_none
