use Rattle.std.proofs.Common.{◌≤◌, length, ◌∙◌, arith}
use Rattle.zp_replay.proofs.Reading.{read-then, take-part, length-part}
use Rattle.zp_replay.proofs.input.fill.Goals as goal

pub pieces-preserved : goal.pieces-preserved
pieces-preserved g c =
    let i = c.pieces.invariant in
    let f = c.in_ok-count.ensures.given in
    let piece : c.in_ok-count.count ≤ length c.read.new.buffer = omega (arith, f.within, c.read.auto.buffer) in
    record {
      inside = length-part _ _ _ _ _ i.inside piece;
      front = read-then _ _ _ _ _ _ i.front f.read (take-part _ _ _ _ _ i.inside piece);
      calm = c.in_ok-count.ensures.calm ∙ i.calm;
    }
