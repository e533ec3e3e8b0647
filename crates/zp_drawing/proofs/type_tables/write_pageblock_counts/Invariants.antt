use Rattle.std.proofs.Common.{take}
use Rattle.std.specs.Fmt.{decimal}
use Rattle.std.specs.Io.KnownBytes.{Appends}
use Rattle.std.specs.List.{flat_map}
use Rattle.zp_drawing.specs.TypeTables.{pageblocks_of, table_types, type_field}
use Rattle.zp_drawing.proofs.type_tables.write_pageblock_counts.Given as goal

-- what was written so far
abbrev pub invariant-loop-kind : goal.invariant-loop-kind
invariant-loop-kind g l = Appends (g.W.Write.contents l.initial.writer) (g.W.Write.contents l.writer) (flat_map (λ t. type_field (decimal (pageblocks_of l.zone t))) (take l.kind-index table_types))
