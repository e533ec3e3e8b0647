use Rattle.zp_laws.proofs.AddingUp.{pages_add_up}
use Rattle.zp_laws.proofs.page_laws.pages_add_up.Goals as goal

pub returns : goal.returns
returns c = λ z l. pages_add_up z l
