use Rattle.std.proofs.Common.{◌≡◌, ◌-◌, length}
use Rattle.std.specs.List.{range_with_len}
use Rattle.zp_model.specs.BlockSet.{first_of, lowest}
use Rattle.zp_plain.proofs.Looking.{look, blocks_open}
use Rattle.zp_plain.proofs.block_set.lowest.Given as goal

-- the block is looked for from the page on
abbrev pub invariant-pages : goal.invariant-pages
invariant-pages l = lowest (blocks_open l.largest l.free l.kinds) l.order ≡ first_of (look (blocks_open l.largest l.free l.kinds) l.order) (range_with_len l.i (length l.free - l.i))
