use Rattle.zp_model.specs.declared.request.Request.TheVariants.{AllocRun}
use Rattle.zp_zone.proofs.zone.Zone.alloc_run.Given as goal

abbrev pub ghosts-enter : goal.ghosts-enter
ghosts-enter a = record { request = AllocRun a.about.now.0 a.about.now.1 a.about.now.2 }
