use Rattle.zp_table.proofs.Packing.{state_put}
use Rattle.zp_table.proofs.packed_entry.PackedEntry.set_state.Goals as goal

pub invariant_of-self : goal.invariant_of-self
invariant_of-self c = rw (c.with_field-self-inside.ensures, c.packed_state.ensures.same) (state_put c.self.inside.word c.args.state c.self.invariant c.packed_state.ensures.fits).0

pub returns : goal.returns
returns c = rw (c.with_field-self-inside.ensures, c.packed_state.ensures.same, ← c.self.view_is) (state_put c.self.inside.word c.args.state c.self.invariant c.packed_state.ensures.fits).1
