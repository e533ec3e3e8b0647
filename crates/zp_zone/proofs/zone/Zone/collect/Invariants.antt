use Rattle.zp_model.specs.declared.request.Request.TheVariants.{Collect}
use Rattle.zp_zone.proofs.zone.Zone.collect.Given as goal

abbrev pub ghosts-enter : goal.ghosts-enter
ghosts-enter a = record { request = Collect }
