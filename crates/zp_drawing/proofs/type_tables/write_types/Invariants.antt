use Rattle.std.proofs.Common.{take}
use Rattle.std.specs.Io.KnownBytes.{Appends}
use Rattle.std.specs.List.{flat_map}
use Rattle.zp_drawing.specs.TypeTables.{table_types, type_field, type_name}
use Rattle.zp_drawing.proofs.type_tables.write_types.Given as goal

-- what was written so far
abbrev pub invariant-loop-kind : goal.invariant-loop-kind
invariant-loop-kind g l = Appends (g.W.Write.contents l.initial.writer) (g.W.Write.contents l.writer) (flat_map (λ t. type_field (type_name t)) (take l.kind-index table_types))
