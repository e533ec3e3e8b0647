use Rattle.std.proofs.Common.{◌∷◌, []}
use Rattle.zp_shared.specs.Rows.{opened_board, opened_key}
use Rattle.zp_growths.proofs.locked.with_pieces.Given as goal

-- the name of the zone that was made
abbrev pub ghosts-shared_as : goal.ghosts-shared_as
ghosts-shared_as g a = record { zones = opened_key a.opened ∷ []; boards = opened_board a.opened ∷ [] }
