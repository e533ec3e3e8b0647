use Rattle.std.proofs.Common.{arith}
use Rattle.std.proofs.lemmas.List.{length-map}
use Rattle.zp_area.specs.Blocks.{Blocks, block_set}
use Rattle.zp_area.specs.KeptSets.{set_of}
use Rattle.zp_area.specs.NotedBlocks.{free_order}
use Rattle.zp_area.proofs.AvailableBlocks.{available-length}
use Rattle.zp_area.proofs.area.FreeArea.whole_until.Goals as goal

pub whole_until-requires-clause-inside : goal.whole_until-requires-clause-inside
whole_until-requires-clause-inside c =
    let a : Blocks = set_of c.self.inside.blocks in
    rw c.self.invariant.told
    (omega (arith, available-length a.largest a.kinds (block_set a), length-map a.rows.states free_order, rw (← c.self.view_is) at c.requires.inside))

pub returns-clause-whole : goal.returns-clause-whole
returns-clause-whole c = rw (← c.self.view_is) (rw c.self.invariant.told at c.whole_until.ensures.whole)

pub returns-clause-stops : goal.returns-clause-stops
returns-clause-stops c = rw (← c.self.view_is) (rw c.self.invariant.told at c.whole_until.ensures.stops)
