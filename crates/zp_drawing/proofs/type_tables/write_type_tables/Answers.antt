use Rattle.zp_drawing.proofs.TableTexts.{tables_written}
use Rattle.zp_drawing.proofs.type_tables.write_type_tables.Goals as goal

pub returns : goal.returns
returns g c =
    tables_written c.args.largest c.args.zones.now _ _ _ _ _ _ _ c.in_ok-write_order.ensures c.in_ok-write_pages.ensures
    c.in_ok-write_free_head.ensures c.in_ok-write_free_table.ensures c.in_ok-write_pageblocks_head.ensures
    c.in_ok-write_pageblocks_table.ensures
