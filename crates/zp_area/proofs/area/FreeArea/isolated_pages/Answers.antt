use Rattle.zp_area.specs.KeptSets.{set_of}
use Rattle.zp_area.proofs.Indexing.{isolated_beside}
use Rattle.zp_area.proofs.area.FreeArea.isolated_pages.Goals as goal

pub returns : goal.returns
returns c = rw (← c.self.view_is, c.self.invariant.apart) (isolated_beside c.self.inside.blocks.largest (set_of c.self.inside.blocks) _ c.self.invariant.kept)
