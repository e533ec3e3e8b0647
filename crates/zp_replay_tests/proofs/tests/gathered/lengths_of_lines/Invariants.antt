use Rattle.std.proofs.Common.{◌≤◌}
use Rattle.zp_replay_tests.proofs.tests.gathered.lengths_of_lines.Given as goal

abbrev pub invariant-loop-byte : goal.invariant-loop-byte
invariant-loop-byte l = l.length ≤ l.byte-index
