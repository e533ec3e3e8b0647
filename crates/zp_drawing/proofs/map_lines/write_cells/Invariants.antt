use Rattle.std.specs.Io.KnownBytes.{Appends}
use Rattle.zp_drawing.specs.MapText.{first_cells_text}
use Rattle.zp_drawing.proofs.map_lines.write_cells.Given as goal

-- the cells so far are written
abbrev pub invariant-cells : goal.invariant-cells
invariant-cells g l = Appends (g.W.Write.contents l.fn.writer) (g.W.Write.contents l.writer) (first_cells_text l.style l.pages l.states l.cell)
