use Rattle.std.proofs.Common.{take}
use Rattle.zp_drawing.proofs.FreeBlocks.{IsTold}
use Rattle.zp_drawing.proofs.map_lines.largest_free.Given as goal

-- the largest of the pages so far
abbrev pub invariant-pages : goal.invariant-pages
invariant-pages l = IsTold (take l.state-index l.row) l.largest
