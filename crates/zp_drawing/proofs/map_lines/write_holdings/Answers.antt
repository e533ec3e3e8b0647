use Rattle.std.proofs.Common.{ℕ, ◌≡◌, ◌+◌, ◌<◌, min, arith, flat_map, subst}
use Rattle.std.proofs.lemmas.Grind.{common_steps}
use Rattle.std.specs.Io.KnownBytes.{Appends}
use Rattle.std.specs.List.{range_with_len}
use Rattle.zp_model.specs.declared.constants.TheConstants.{MAX_WORKERS}
use Rattle.zp_drawing.specs.MapText.{holding_text}
use Rattle.zp_drawing.proofs.Written.{Appends-then, flat_map-range_more}
use Rattle.zp_drawing.proofs.map_lines.write_holdings.Goals as goal

-- one worker more
pub workers-preserved : goal.workers-preserved
workers-preserved g c =
    let below : c.workers.number < MAX_WORKERS = grind (arith, common_steps, c.in-Some.ensures.when) in
    let now : min (c.workers.number + 1) MAX_WORKERS ≡ c.workers.number + 1 = omega arith in
    let was : min c.workers.number MAX_WORKERS ≡ c.workers.number = omega arith in
    let more = flat_map-range_more (holding_text c.args.begin.now c.args.row.now) c.workers.number in
    let before = rw was at c.workers.invariant in
    let Piece : ℕ → Type 0 =
    λ w. Appends (g.W.Write.contents c.workers.writer) (g.W.Write.contents c.write_holding.new.writer) (holding_text c.args.begin.now c.args.row.now w)
    in
    let piece : Piece c.workers.number = subst Piece c.in-Some.ensures.some c.in_ok-write_holding.ensures in
    rw (now, more)
    (Appends-then
    (g.W.Write.contents c.args.writer.now)
    (g.W.Write.contents c.workers.writer)
    (g.W.Write.contents c.write_holding.new.writer)
    (flat_map (holding_text c.args.begin.now c.args.row.now) (range_with_len 0 c.workers.number))
    (holding_text c.args.begin.now c.args.row.now c.workers.number)
    before
    piece)
