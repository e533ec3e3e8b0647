use Rattle.zp_table.proofs.Packing.{forward_put}
use Rattle.zp_table.proofs.packed_entry.PackedEntry.set_forward.Goals as goal

pub invariant_of-self : goal.invariant_of-self
invariant_of-self c = rw c.with_link-self-inside.ensures.same (forward_put c.self.inside.word c.args.forward c.self.invariant c.with_link-self-inside.ensures.fits).0

pub returns : goal.returns
returns c = rw (c.with_link-self-inside.ensures.same, ← c.self.view_is) (forward_put c.self.inside.word c.args.forward c.self.invariant c.with_link-self-inside.ensures.fits).1
