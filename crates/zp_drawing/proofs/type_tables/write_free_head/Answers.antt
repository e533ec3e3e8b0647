use Rattle.zp_drawing.proofs.TableTexts.{free_head_written}
use Rattle.zp_drawing.proofs.type_tables.write_free_head.Goals as goal

pub returns : goal.returns
returns g c = free_head_written c.args.largest _ _ _ _ c.in_ok-write_free_title.ensures c.in_ok-write_orders.ensures c.in_ok-writeln.ensures.bytes
