use Rattle.std.proofs.Common.{◌≡◌}
use Rattle.zp_counts.proofs.tests.a_board_that_turns_goes_on_after_its_slots.Given as goal

-- they are of one board
abbrev pub invariant-loop-free : goal.invariant-loop-free
invariant-loop-free g l = record {
  publisher : l.publisher.tie ≡ l.initial.publisher.tie;
  often : l.often.tie ≡ l.initial.often.tie;
}
