use Rattle.std.proofs.Common.{append_assoc}
use Rattle.zp_drawing.proofs.map_lines.write_title.Goals as goal

pub returns : goal.returns
returns g c =
    let told =
    rw (c.name-name.ensures.name, c.pages-pages.ensures.pages, c.pageblock_pages-pageblock.ensures.pages, c.largest.ensures) at c.writeln.ensures.bytes
    in
    simp append_assoc told
