use Rattle.zp_area.specs.Blocks.{Blocks}
use Rattle.zp_area.specs.KeptSets.{set_of}
use Rattle.zp_area.proofs.Holding.{IsHolding, clear_noted}
use Rattle.zp_area.proofs.Indexing.{indexed_noted}
use Rattle.zp_area.proofs.area.FreeArea.hold.Goals as goal

pub invariant_of-self : goal.invariant_of-self
invariant_of-self c =
    let a : Blocks = set_of c.self.inside.blocks in
    let x : IsHolding c.self.inside.blocks.largest a c.args.at c.args.state = record { one = c.self.invariant.kept.one; used = rw (← c.self.view_is) at c.requires.used; note = c.requires.note } in
    rw c.set_state.ensures (indexed_noted a _ _ _ _ _ _ _ c.self.invariant x)

pub returns-clause-still_clear : goal.returns-clause-still_clear
returns-clause-still_clear c =
    let a : Blocks = set_of c.self.inside.blocks in
    let x : IsHolding c.self.inside.blocks.largest a c.args.at c.args.state = record { one = c.self.invariant.kept.one; used = rw (← c.self.view_is) at c.requires.used; note = c.requires.note } in
    rw (← c.self.view_is, c.set_state.ensures) (clear_noted c.self.inside.blocks.largest a c.args.at c.args.state x)
