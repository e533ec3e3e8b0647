use Rattle.std.proofs.Common.{arith, ◌∙◌}
use Rattle.zp_text.proofs.Gathered.{part_taken, whole_part}
use Rattle.zp_text.proofs.gathering.write_lines.Goals as goal

pub returns-then-at-end-clause-written : goal.returns-then-at-end-clause-written
returns-then-at-end-clause-written g c =
    let i = c.lines.invariant in
    (part_taken c.args.text.now c.lines.at c.next_line-end.result _ _ _ _ (omega (arith, c.next_line-end.ensures.behind)) c.next_line-end.ensures.within c.write_pieces-at.ensures.within i.written
    c.write_pieces-at.ensures.written).1

pub lines-preserved : goal.lines-preserved
lines-preserved g c =
    let i = c.lines.invariant in
    let more = part_taken c.args.text.now c.lines.at c.next_line-end.result c.write_pieces-at.result _ _ _ (omega (arith, c.next_line-end.ensures.behind)) c.next_line-end.ensures.within c.write_pieces-at.ensures.within i.written c.write_pieces-at.ensures.written in
    record {
      inside = omega (arith, more.0, c.next_line-end.ensures.within);
      written = more.1;
      calm = c.write_pieces-at.ensures.calm (whole_part c.args.text.now c.lines.at c.next_line-end.result c.write_pieces-at.result (omega (arith, c.next_line-end.ensures.behind)) c.next_line-end.ensures.within c.write_pieces-at.ensures.within c.if-at-end.false) ∙ i.calm;
    }
