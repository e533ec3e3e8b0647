use Rattle.zp_laws.proofs.RunsByBlocks.{freed_in_parts}
use Rattle.zp_laws.proofs.run_laws.runs_are_freed_in_parts.Goals as goal

pub returns : goal.returns
returns c = λ z w h n k b l p q lent e ends. freed_in_parts z w h n k b l p q lent e ends
