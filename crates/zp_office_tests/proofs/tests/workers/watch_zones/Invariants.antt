use Rattle.std.proofs.Common.{map}
use Rattle.zp_shared.specs.Rows.{opened_board, opened_key}
use Rattle.zp_office_tests.proofs.tests.workers.watch_zones.Given as goal

-- the name of the opened zones
abbrev pub ghosts-watch_as : goal.ghosts-watch_as
ghosts-watch_as g a = record { zones = map opened_key a.opened.items; boards = map opened_board a.opened.items }
