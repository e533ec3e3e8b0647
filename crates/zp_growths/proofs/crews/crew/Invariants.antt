use Rattle.std.proofs.Common.{◌∷◌, []}
use Rattle.zp_shared.specs.Rows.{opened_board, opened_key}
use Rattle.zp_growths.proofs.crews.crew.Given as goal

-- the name of the zone that was made
abbrev pub ghosts-crew_as : goal.ghosts-crew_as
ghosts-crew_as g a = record { zones = opened_key a.opened ∷ []; boards = opened_board a.opened ∷ [] }
