use Rattle.std.proofs.Common.{length, arith}
use Rattle.zp_model.specs.Block.{IsBlock}
use Rattle.zp_model.specs.BlockSet.{Starts}
use Rattle.zp_area.specs.Blocks.{Blocks, block_set}
use Rattle.zp_area.specs.KeptSets.{set_of}
use Rattle.zp_area.proofs.Keeping.{blocks_length, typed_there}
use Rattle.zp_area.proofs.area.FreeArea.pageblocks.Goals as goal

pub returns-clause-blocks : goal.returns-clause-blocks
returns-clause-blocks c = λ h k s.
    let one = c.self.invariant.kept.one in
    let a : Blocks = set_of c.self.inside.blocks in
    let there : Starts (block_set a) h k = rw (← c.self.view_is) at s in
    let block : IsBlock c.self.inside.blocks.largest (length a.rows.states) h k = rw (← blocks_length c.self.inside.blocks.lists.states) (one.blocks.block h k there) in
    rw (← c.self.view_is) (omega (arith, c.len.ensures, typed_there c.self.inside.blocks.largest a h k one block))
