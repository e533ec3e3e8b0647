use Rattle.std.proofs.Common.{arith}
use Rattle.zp_area.proofs.NotedClaims.{claimed_marked}
use Rattle.zp_area.proofs.noting.mark.Goals as goal

pub returns-in-Some : goal.returns-in-Some
returns-in-Some c =
    rw (c.note.ensures, c.mark.ensures.marks, c.in-Some.is)
    (claimed_marked c.args.blocks.now.largest c.args.blocks.now.tree c.args.blocks.now.kinds.items _ _ c.args.pageblock c.in-Some.other c.requires.others
    (omega (arith, c.in-Some.ensures.other, c.requires.others.blocks, c.requires.others.marked)) (omega (arith, c.requires.inside, c.requires.others.marked)))
