use Rattle.std.proofs.Common.{◌∷◌, []}
use Rattle.zp_shared.specs.Rows.{opened_board, opened_key}
use Rattle.zp_shared_tests.proofs.tests.full_lists.left_by_calls.Given as goal

-- the name of the opened zone
abbrev pub ghosts-run_calls : goal.ghosts-run_calls
ghosts-run_calls g a = record { zones = opened_key a.opened ∷ []; boards = opened_board a.opened ∷ [] }
