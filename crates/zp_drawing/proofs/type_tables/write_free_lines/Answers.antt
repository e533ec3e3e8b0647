use Rattle.std.proofs.Common.{arith}
use Rattle.zp_drawing.specs.TypeTables.{free_line, table_types}
use Rattle.zp_drawing.proofs.TableTexts.{all_lines, item_more}
use Rattle.zp_drawing.proofs.type_tables.write_free_lines.Goals as goal

pub loop-kind-preserved : goal.loop-kind-preserved
loop-kind-preserved g c =
    item_more (free_line c.args.largest c.args.zone.now) table_types c.loop-kind.kind-index _ _ _ _ (omega arith) c.loop-kind.invariant
    c.in_ok-write_free_line.ensures

pub returns : goal.returns
returns g c = all_lines c.args.largest c.args.zone.now c.loop-kind.kind-index _ _ (omega arith) c.loop-kind.invariant
