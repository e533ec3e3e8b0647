use Rattle.zp_model.specs.declared.request.Request.TheVariants.{Drain}
use Rattle.zp_zone.proofs.zone.Zone.drain.Given as goal

abbrev pub ghosts-enter : goal.ghosts-enter
ghosts-enter a = record { request = Drain a.about.now.0 a.about.now.1.now }
