use Rattle.std.proofs.Common.{◌*◌, arith}
use Rattle.zp_drawing.specs.MapText.{first_cells_text, nth_cell_text}
use Rattle.zp_drawing.proofs.Written.{Appends-then, chunk_cut, flat_map-range_more}
use Rattle.zp_drawing.proofs.map_lines.write_cells.Goals as goal

-- one cell more
pub cells-preserved : goal.cells-preserved
cells-preserved g c =
    let cut = chunk_cut c.args.states.now (c.cells.cell * c.args.pages) c.args.pages c.min.result (omega arith) in
    let piece = rw cut at c.in_ok-write_cell.ensures in
    let more = flat_map-range_more (nth_cell_text c.args.style.now c.args.pages c.args.states.now) c.cells.cell in
    rw more
    (Appends-then
    (g.W.Write.contents c.args.writer.now)
    (g.W.Write.contents c.cells.writer)
    (g.W.Write.contents c.write_cell.new.writer)
    (first_cells_text c.args.style.now c.args.pages c.args.states.now c.cells.cell)
    (nth_cell_text c.args.style.now c.args.pages c.args.states.now c.cells.cell)
    c.cells.invariant
    piece)
