use Rattle.zp_model.specs.declared.request.Request.TheVariants.{Free}
use Rattle.zp_zone.proofs.zone.Zone.free.Given as goal

abbrev pub ghosts-enter : goal.ghosts-enter
ghosts-enter a = record { request = Free a.about.now.0 a.about.now.1 }
