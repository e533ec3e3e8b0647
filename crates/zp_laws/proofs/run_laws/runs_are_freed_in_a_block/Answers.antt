use Rattle.zp_laws.proofs.RunsByBlocks.{freed_in_block}
use Rattle.zp_laws.proofs.run_laws.runs_are_freed_in_a_block.Goals as goal

pub returns : goal.returns
returns c = λ z w h n b l some e le. freed_in_block z w h n b l some e le
