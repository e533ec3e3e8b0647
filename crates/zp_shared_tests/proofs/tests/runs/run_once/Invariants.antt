use Rattle.std.proofs.Common.{◌∷◌, []}
use Rattle.zp_shared.specs.Rows.{opened_board, opened_key}
use Rattle.zp_shared_tests.proofs.tests.runs.run_once.Given as goal

-- the name of the opened zone
abbrev pub ghosts-taken_and_freed : goal.ghosts-taken_and_freed
ghosts-taken_and_freed g a = record { zones = opened_key a.opened ∷ []; boards = opened_board a.opened ∷ [] }
