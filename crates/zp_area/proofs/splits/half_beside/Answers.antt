use Rattle.zp_model.proofs.Heads.{head_aligned}
use Rattle.zp_area.proofs.Towards.{beside_is}
use Rattle.zp_area.proofs.splits.half_beside.Goals as goal

pub buddy-requires : goal.buddy-requires
buddy-requires c = rw c.head.ensures (head_aligned c.args.at c.args.order)

pub returns : goal.returns
returns c = beside_is c.args.at c.args.order _ _ (rw c.head.ensures at c.buddy.ensures)
