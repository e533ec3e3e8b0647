use Rattle.std.specs.Fmt.{decimal}
use Rattle.zp_drawing.proofs.Padded.{right_aligned-padded}
use Rattle.zp_drawing.proofs.map_lines.write_margin.Goals as goal

pub returns : goal.returns
returns g c = rw (← right_aligned-padded 5 (decimal c.args.number)) (rw c.laid_out.ensures at c.write.ensures.bytes)
