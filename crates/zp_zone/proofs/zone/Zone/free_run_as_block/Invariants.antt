use Rattle.zp_model.specs.declared.request.Request.TheVariants.{FreeRun}
use Rattle.zp_zone.proofs.zone.Zone.free_run_as_block.Given as goal

abbrev pub ghosts-enter : goal.ghosts-enter
ghosts-enter a = record { request = FreeRun a.about.now.0 a.about.now.1 }
