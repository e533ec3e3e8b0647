use Rattle.std.proofs.Common.{◌≡◌, ◌<◌, ◌≤◌, ◌+◌, ◌-◌, length, take, drop, refl, arith}
use Rattle.std.proofs.lemmas.List.{length-take}
use Rattle.zp_text.proofs.Gathered.{part_length, part_taken}
use Rattle.zp_text.proofs.gathering.write_gathered.Goals as goal

pub returns-then-has_lines-clause-err : goal.returns-then-has_lines-clause-err
returns-then-has_lines-clause-err g c =
    let here = c.write_pieces-taken.ensures in
    let more = part_taken c.args.text.now c.write_pieces-taken.result (length c.args.text.now) c.write_lines.result _ _ _ here.within (omega arith) c.write_lines.ensures.within here.written c.write_lines.ensures.written in
    (c.write_pieces-taken.result + c.write_lines.result, more.1)

pub returns-then-has_lines-clause-stopped : goal.returns-then-has_lines-clause-stopped
returns-then-has_lines-clause-stopped g c =
    let here = c.write_pieces-taken.ensures in
    let more = part_taken c.args.text.now c.write_pieces-taken.result (length c.args.text.now) c.write_lines.result _ _ _ here.within (omega arith) c.write_lines.ensures.within here.written c.write_lines.ensures.written in
    record {
      taken = c.write_pieces-taken.result + c.write_lines.result;
      within = more.0;
      written = more.1;
      refused = λ start k behind inside next.
          omega (arith, here.failed (omega (arith, here.within, c.if-taken-text.false)), c.write_lines.ensures.failed (omega (arith, behind, inside, part_length c.args.text.now c.write_pieces-taken.result (length c.args.text.now) here.within (omega arith))));
    }

pub returns-else-has_lines-clause-stopped : goal.returns-else-has_lines-clause-stopped
returns-else-has_lines-clause-stopped g c = record {
  taken = c.write_pieces-taken.result;
  within = c.write_pieces-taken.ensures.within;
  written = c.write_pieces-taken.ensures.written;
  refused = λ start k behind inside next. absurd (c.has_lines.ensures.one c.if-has_lines.false start k behind inside next);
}
