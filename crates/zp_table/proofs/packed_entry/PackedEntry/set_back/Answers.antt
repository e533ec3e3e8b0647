use Rattle.zp_table.proofs.Packing.{back_put}
use Rattle.zp_table.proofs.packed_entry.PackedEntry.set_back.Goals as goal

pub invariant_of-self : goal.invariant_of-self
invariant_of-self c = rw c.with_link-self-inside.ensures.same (back_put c.self.inside.word c.args.back c.self.invariant c.with_link-self-inside.ensures.fits).0

pub returns : goal.returns
returns c = rw (c.with_link-self-inside.ensures.same, ← c.self.view_is) (back_put c.self.inside.word c.args.back c.self.invariant c.with_link-self-inside.ensures.fits).1
