use Rattle.std.proofs.Common.{arith}
use Rattle.zp_drawing.specs.TypeTables.{table_types, type_field, type_name}
use Rattle.zp_drawing.proofs.TableTexts.{all_items, item_more}
use Rattle.zp_drawing.proofs.type_tables.write_types.Goals as goal

pub loop-kind-preserved : goal.loop-kind-preserved
loop-kind-preserved g c =
    item_more (λ t. type_field (type_name t)) table_types c.loop-kind.kind-index _ _ _ _ (omega arith) c.loop-kind.invariant
    c.in_ok-write_type.ensures

pub returns : goal.returns
returns g c = all_items (λ t. type_field (type_name t)) table_types c.loop-kind.kind-index _ _ (omega arith) c.loop-kind.invariant
