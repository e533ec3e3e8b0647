use Rattle.zp_model.specs.declared.request.Request.TheVariants.{Refill}
use Rattle.zp_zone.proofs.zone.Zone.refill.Given as goal

abbrev pub ghosts-enter : goal.ghosts-enter
ghosts-enter a = record { request = Refill a.about.now.0 a.about.now.1 a.about.now.2 }
