use Rattle.std.proofs.Common.{arith}
use Rattle.std.proofs.lemmas.List.{length-map}
use Rattle.zp_area.specs.Blocks.{Blocks, block_set}
use Rattle.zp_area.specs.KeptSets.{set_of}
use Rattle.zp_area.specs.NotedBlocks.{free_order}
use Rattle.zp_area.proofs.AvailableBlocks.{available-length}
use Rattle.zp_area.proofs.area.FreeArea.bare_until.Goals as goal

pub returns-clause-bare : goal.returns-clause-bare
returns-clause-bare c = rw (← c.self.view_is) (rw c.self.invariant.told at c.bare_until.ensures.bare)

pub returns-clause-stops : goal.returns-clause-stops
returns-clause-stops c =
    let a : Blocks = set_of c.self.inside.blocks in
    rw (← c.self.view_is) (λ below.
    rw c.self.invariant.told at c.bare_until.ensures.stops (omega (arith, below, available-length a.largest a.kinds (block_set a), length-map a.rows.states free_order)))
