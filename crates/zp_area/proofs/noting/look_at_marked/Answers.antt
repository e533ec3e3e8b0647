use Rattle.std.proofs.Common.{arith}
use Rattle.zp_area.proofs.NotedClaims.{claimed_looked}
use Rattle.zp_area.proofs.noting.look_at_marked.Goals as goal

pub marked-preserved : goal.marked-preserved
marked-preserved c =
    rw (c.note.ensures, c.next.ensures.marks, c.in-Some.is)
    (claimed_looked c.args.blocks.now.largest c.args.blocks.now.tree c.args.blocks.now.kinds.items c.marked.noted.claims c.marked.noted.stale.marks c.in-Some.pageblock c.marked.invariant
    (omega (arith, c.in-Some.ensures.other.0, c.marked.invariant.blocks, c.marked.invariant.marked)))
