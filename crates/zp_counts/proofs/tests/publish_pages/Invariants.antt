use Rattle.std.proofs.Common.{◌≡◌}
use Rattle.zp_counts.proofs.tests.publish_pages.Given as goal

-- the publisher is the board's
abbrev pub invariant-loop-before : goal.invariant-loop-before
invariant-loop-before g l = l.publisher.tie ≡ l.board.tie
