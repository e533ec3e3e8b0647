use Rattle.std.proofs.Common.{take}
use Rattle.std.specs.Io.KnownBytes.{Appends}
use Rattle.std.specs.List.{flat_map}
use Rattle.zp_drawing.specs.TypeTables.{pageblocks_line}
use Rattle.zp_drawing.proofs.type_tables.write_pageblocks_table.Given as goal

-- what was written so far
abbrev pub invariant-loop-zone : goal.invariant-loop-zone
invariant-loop-zone g l = Appends (g.W.Write.contents l.initial.writer) (g.W.Write.contents l.writer) (flat_map pageblocks_line (take l.zone-index l.zones))
