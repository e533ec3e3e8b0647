use Rattle.std.proofs.Common.{map}
use Rattle.zp_shared.specs.Rows.{opened_board, opened_key}
use Rattle.zonesoak.proofs.machine.run.Given as goal

-- the name of the zones that were made
abbrev pub ghosts-run_machine : goal.ghosts-run_machine
ghosts-run_machine g a = record { zones = map opened_key a.machine.zones.items; boards = map opened_board a.machine.zones.items }
