use Rattle.std.proofs.Common.{◌∷◌, []}
use Rattle.zp_shared.specs.Rows.{opened_board, opened_key}
use Rattle.zonesoak.proofs.soak.run.Given as goal

-- the name of the zone that was made
abbrev pub ghosts-run_as : goal.ghosts-run_as
ghosts-run_as g a = record { zones = opened_key a.opened ∷ []; boards = opened_board a.opened ∷ [] }
