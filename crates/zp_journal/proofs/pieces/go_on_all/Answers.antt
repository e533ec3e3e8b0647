use Rattle.std.proofs.Common.{◌≤◌, [], arith, length}
use Rattle.zp_journal.proofs.Replayed.{gone_none}
use Rattle.zp_journal.proofs.Together.{gone_further, further_whole, illegal_whole}
use Rattle.zp_journal.proofs.pieces.go_on_all.Goals as goal

pub loop-piece-init : goal.loop-piece-init
loop-piece-init c = record { found = gone_none c.args.zone.now []; seats = c.requires }

pub loop-piece-preserved : goal.loop-piece-preserved
loop-piece-preserved c = record {
  found =
      gone_further c.args.zone.now c.args.pieces.now c.loop-piece.piece-index c.piece-item.result c.loop-piece.zone c.go_on.new.zone c.loop-piece-test.true c.piece-item.is c.loop-piece.invariant.found
      c.if-not-go_on.ensures.gone.0 c.if-not-go_on.ensures.gone.1;
  seats = c.go_on.ensures.seats;
}

pub returns-then-not-go_on-clause-gone : goal.returns-then-not-go_on-clause-gone
returns-then-not-go_on-clause-gone c =
    illegal_whole c.args.zone.now c.loop-piece.zone c.args.pieces.now c.loop-piece.piece-index c.piece-item.result c.loop-piece-test.true c.piece-item.is c.loop-piece.invariant.found c.if-not-go_on.ensures.gone

pub returns-clause-gone : goal.returns-clause-gone
returns-clause-gone c =
    let all : length c.args.pieces.now ≤ c.loop-piece.piece-index = omega (arith, c.loop-piece-test.false) in
    further_whole c.args.zone.now c.loop-piece.zone c.args.pieces.now c.loop-piece.piece-index all c.loop-piece.invariant.found
