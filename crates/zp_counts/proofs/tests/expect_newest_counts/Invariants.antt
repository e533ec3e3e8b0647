use Rattle.std.proofs.Common.{◌≡◌}
use Rattle.zp_counts.proofs.tests.expect_newest_counts.Given as goal

-- they are of one board
abbrev pub invariant-loop-published : goal.invariant-loop-published
invariant-loop-published g l = record {
  publisher : l.publisher.tie ≡ l.board.tie;
  reader : l.reader.tie ≡ l.board.tie;
}
