use Rattle.zp_model.specs.declared.request.Request.TheVariants.{Isolate}
use Rattle.zp_zone.proofs.zone.Zone.isolate.Given as goal

abbrev pub ghosts-enter : goal.ghosts-enter
ghosts-enter a = record { request = Isolate a.about.now }
