use Rattle.zp_model.specs.declared.request.Request.TheVariants.{AllocLow}
use Rattle.zp_zone.proofs.zone.Zone.alloc_low.Given as goal

abbrev pub ghosts-enter : goal.ghosts-enter
ghosts-enter a = record { request = AllocLow a.about.now }
