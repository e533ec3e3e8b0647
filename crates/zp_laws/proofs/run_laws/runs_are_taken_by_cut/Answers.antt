use Rattle.zp_laws.proofs.RunsByBlocks.{taken_by_cut}
use Rattle.zp_laws.proofs.run_laws.runs_are_taken_by_cut.Goals as goal

pub returns : goal.returns
returns c = λ z w h n l. taken_by_cut z w h n l
