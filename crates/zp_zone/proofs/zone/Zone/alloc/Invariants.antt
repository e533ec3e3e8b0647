use Rattle.zp_model.specs.declared.request.Request.TheVariants.{Alloc}
use Rattle.zp_zone.proofs.zone.Zone.alloc.Given as goal

abbrev pub ghosts-enter : goal.ghosts-enter
ghosts-enter a = record { request = Alloc a.about.now.0 a.about.now.1 a.about.now.2 }
