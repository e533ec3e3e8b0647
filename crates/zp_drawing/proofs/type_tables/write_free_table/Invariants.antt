use Rattle.std.proofs.Common.{take}
use Rattle.std.specs.Io.KnownBytes.{Appends}
use Rattle.std.specs.List.{flat_map}
use Rattle.zp_drawing.specs.TypeTables.{free_lines}
use Rattle.zp_drawing.proofs.type_tables.write_free_table.Given as goal

-- what was written so far
abbrev pub invariant-loop-zone : goal.invariant-loop-zone
invariant-loop-zone g l = Appends (g.W.Write.contents l.initial.writer) (g.W.Write.contents l.writer) (flat_map (free_lines l.largest) (take l.zone-index l.zones))
