use Rattle.std.proofs.Common.{append_assoc}
use Rattle.zp_drawing.proofs.map_lines.write_run_line.Goals as goal

pub returns : goal.returns
returns g c =
    let told =
    rw (c.saturating_sub-last.ensures, c.saturating_add.ensures, c.used_pages-used.ensures, c.from.ensures, c.pages-pages.ensures.pages, c.number-number.ensures.same)
    at c.writeln.ensures.bytes
    in
    simp append_assoc told
