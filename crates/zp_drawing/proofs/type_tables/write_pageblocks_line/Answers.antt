use Rattle.zp_drawing.proofs.TableTexts.{pageblocks_line_written}
use Rattle.zp_drawing.proofs.type_tables.write_pageblocks_line.Goals as goal

pub returns : goal.returns
returns g c =
    pageblocks_line_written c.args.zone.now _ _ _ _ _ _ c.in_ok-write.ensures.bytes c.in_ok-write_name.ensures c.in_ok-write-2.ensures.bytes
    c.in_ok-write_pageblock_counts.ensures c.in_ok-writeln.ensures.bytes
