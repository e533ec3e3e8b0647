use Rattle.std.proofs.Common.{append_assoc}
use Rattle.zp_drawing.proofs.map_lines.write_no_run.Goals as goal

pub returns : goal.returns
returns g c = simp append_assoc (rw c.number-number.ensures.same at c.writeln.ensures.bytes)
