use Rattle.zp_model.specs.declared.request.Request.TheVariants.{Release}
use Rattle.zp_zone.proofs.zone.Zone.release.Given as goal

abbrev pub ghosts-enter : goal.ghosts-enter
ghosts-enter a = record { request = Release a.about.now.0 a.about.now.1 }
