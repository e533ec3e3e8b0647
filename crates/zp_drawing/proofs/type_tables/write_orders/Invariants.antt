use Rattle.std.proofs.Common.{◌+◌, take}
use Rattle.std.specs.Io.KnownBytes.{Appends}
use Rattle.std.specs.List.{flat_map, range_with_len}
use Rattle.zp_model.specs.Info.{number_field}
use Rattle.zp_drawing.proofs.type_tables.write_orders.Given as goal

-- what was written so far
abbrev pub invariant-loop-order : goal.invariant-loop-order
invariant-loop-order g l = Appends (g.W.Write.contents l.initial.writer) (g.W.Write.contents l.writer) (flat_map number_field (take l.order (range_with_len 0 (l.fn.largest + 1))))
