use Rattle.std.proofs.Common.{arith, ap, get_or}
use Rattle.std.specs.Fmt.{decimal}
use Rattle.zp_drawing.specs.TypeTables.{pageblocks_of, table_types, type_field}
use Rattle.zp_drawing.proofs.TableTexts.{all_items, item_more, told_as}
use Rattle.zp_drawing.proofs.type_tables.write_pageblock_counts.Goals as goal

pub loop-kind-preserved : goal.loop-kind-preserved
loop-kind-preserved g c =
    let count = told_as _ _ _ _ (ap (λ n. type_field (decimal (get_or c.args.zone.now.pageblocks n 0))) c.number.ensures.number)
    c.in_ok-write_pageblock_count.ensures in
    item_more (λ t. type_field (decimal (pageblocks_of c.args.zone.now t))) table_types c.loop-kind.kind-index _ _ _ _ (omega arith) c.loop-kind.invariant count

pub returns : goal.returns
returns g c = all_items (λ t. type_field (decimal (pageblocks_of c.args.zone.now t))) table_types c.loop-kind.kind-index _ _ (omega arith) c.loop-kind.invariant
