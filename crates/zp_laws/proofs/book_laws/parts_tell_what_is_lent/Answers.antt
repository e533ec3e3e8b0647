use Rattle.zp_laws.proofs.RunsHeld.{run-lent}
use Rattle.zp_laws.proofs.book_laws.parts_tell_what_is_lent.Goals as goal

pub returns : goal.returns
returns c = λ w p n b l. run-lent w b l p n
