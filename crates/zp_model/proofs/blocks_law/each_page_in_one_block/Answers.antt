use Rattle.zp_model.proofs.MaximalBlocks.{each_page_in_one_block}
use Rattle.zp_model.proofs.blocks_law.each_page_in_one_block.Goals as goal

pub returns : goal.returns
returns c = each_page_in_one_block
