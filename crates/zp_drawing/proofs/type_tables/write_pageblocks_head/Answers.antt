use Rattle.zp_drawing.proofs.TableTexts.{pageblocks_head_written}
use Rattle.zp_drawing.proofs.type_tables.write_pageblocks_head.Goals as goal

pub returns : goal.returns
returns g c = pageblocks_head_written _ _ _ _ c.in_ok-write_pageblocks_title.ensures c.in_ok-write_types.ensures c.in_ok-writeln.ensures.bytes
