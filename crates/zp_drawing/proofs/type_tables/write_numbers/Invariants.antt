use Rattle.std.proofs.Common.{take}
use Rattle.std.specs.Io.KnownBytes.{Appends}
use Rattle.std.specs.List.{flat_map}
use Rattle.zp_model.specs.Info.{number_field}
use Rattle.zp_drawing.proofs.type_tables.write_numbers.Given as goal

-- what was written so far
abbrev pub invariant-loop-number : goal.invariant-loop-number
invariant-loop-number g l = Appends (g.W.Write.contents l.initial.writer) (g.W.Write.contents l.writer) (flat_map number_field (take l.number-index l.numbers))
