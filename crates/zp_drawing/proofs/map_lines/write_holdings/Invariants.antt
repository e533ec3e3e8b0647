use Rattle.std.specs.Io.KnownBytes.{Appends}
use Rattle.zp_drawing.specs.MapText.{holdings_text}
use Rattle.zp_drawing.proofs.map_lines.write_holdings.Given as goal

-- the lines of the workers so far are written
abbrev pub invariant-workers : goal.invariant-workers
invariant-workers g l = Appends (g.W.Write.contents l.fn.writer) (g.W.Write.contents l.writer) (holdings_text l.begin l.row l.number)
