use Rattle.std.proofs.Common.{◌∷◌, []}
use Rattle.zp_shared.specs.Rows.{opened_board, opened_key}
use Rattle.zp_shared_tests.proofs.tests.one_zone.run.Given as goal

-- the name of the opened zone
abbrev pub ghosts-run_as : goal.ghosts-run_as
ghosts-run_as g a = record { zones = opened_key a.opened ∷ []; boards = opened_board a.opened ∷ [] }
