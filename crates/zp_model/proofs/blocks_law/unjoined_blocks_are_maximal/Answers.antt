use Rattle.zp_model.proofs.MaximalBlocks.{unjoined_are_maximal}
use Rattle.zp_model.proofs.blocks_law.unjoined_blocks_are_maximal.Goals as goal

pub returns : goal.returns
returns c = unjoined_are_maximal
