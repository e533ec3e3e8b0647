use Rattle.zp_laws.proofs.Choosing.{choose_found}
use Rattle.zp_laws.proofs.zone_laws.choosing_finds_free.Goals as goal

pub returns : goal.returns
returns c = choose_found
