-- The set of blocks of what a free area keeps.
use Rattle.zp_area.specs.declared.kept_blocks.KeptBlocks.{KeptBlocks}
use Rattle.zp_area.specs.Blocks.{Blocks}

abbrev pub set_of : KeptBlocks → Blocks
set_of b = record { largest = b.largest; rows = b.lists; kinds = b.kinds.items }
