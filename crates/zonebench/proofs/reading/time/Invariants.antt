use Rattle.std.proofs.Common.{◌∷◌, []}
use Rattle.zp_shared.specs.Rows.{opened_board, opened_key}
use Rattle.zonebench.proofs.reading.time.Given as goal

-- the name of the zone that was made
abbrev pub ghosts-time_as : goal.ghosts-time_as
ghosts-time_as g a = record { zones = opened_key a.opened ∷ []; boards = opened_board a.opened ∷ [] }
