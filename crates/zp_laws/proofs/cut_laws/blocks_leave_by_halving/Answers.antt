use Rattle.zp_model.proofs.Halving.{left_by_halving}
use Rattle.zp_laws.proofs.cut_laws.blocks_leave_by_halving.Goals as goal

pub returns : goal.returns
returns c = λ a h k o l s al le. left_by_halving a h k o l s al le
