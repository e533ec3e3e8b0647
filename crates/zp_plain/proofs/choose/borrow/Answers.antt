use Rattle.std.proofs.Common.{◌∙◌, refl}
use Rattle.zp_model.specs.Choose.{borrow}
use Rattle.zp_plain.proofs.choose.borrow.Goals as goal

pub returns : goal.returns
unfolding borrow
returns c = c.first_front.ensures ∙ rw c.fallbacks.ensures refl
