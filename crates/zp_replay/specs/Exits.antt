-- How the program ends: its exit status, and what it says on standard error.
use Rattle.std.specs.Prelude.{ℕ, List, [], ◌∷◌, ◌++◌}
use Rattle.zp_replay.specs.declared.ending.Ending.TheVariants.{Good, BadLine}
use Rattle.zp_flags.specs.declared.flags.FlagFault.TheVariants as flag
use Rattle.zp_replay.specs.declared.exit.Exit.{Exit}
use Rattle.zp_replay.specs.declared.exit.Exit.TheVariants.{Replayed, Broken, Refused}
use Rattle.zp_flags.specs.Faults.{flag_message}
use Rattle.zp_replay.specs.Faults.{replay_message}
use Rattle.zp_replay.specs.Replies.{line_feed}

-- 0 after a good trace, 2 where a word is no flag, or flags do not go together, and else 1
abbrev pub exit_status : Exit → ℕ
exit_status (Replayed Good) = 0
exit_status (Replayed (BadLine n)) = 1
exit_status (Broken fault) = 1
exit_status (Refused flag.Memory) = 1
exit_status (Refused flag.Unknown) = 2
exit_status (Refused flag.NeedsThreads) = 2

-- nothing after a trace, good or bad; else what the matter was, as a line
abbrev pub exit_text : Exit → List ℕ
exit_text (Replayed ending) = []
exit_text (Broken fault) = replay_message fault ++ line_feed ∷ []
exit_text (Refused fault) = flag_message fault ++ line_feed ∷ []
