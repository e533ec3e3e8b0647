use Rattle.zp_laws.proofs.ChoosingAny.{take_low_none}
use Rattle.zp_laws.proofs.zone_laws.lowest_misses_none.Goals as goal

pub returns : goal.returns
returns c = take_low_none
