use Rattle.std.proofs.Common.{◌∷◌, []}
use Rattle.zp_shared.specs.Rows.{opened_board, opened_key}
use Rattle.zp_shared_tests.proofs.tests.places.read_once.Given as goal

-- the name of the opened zone
abbrev pub ghosts-read_and_take : goal.ghosts-read_and_take
ghosts-read_and_take g a = record { zones = opened_key a.opened ∷ []; boards = opened_board a.opened ∷ [] }
