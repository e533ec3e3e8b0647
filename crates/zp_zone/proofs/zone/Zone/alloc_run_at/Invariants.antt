use Rattle.zp_model.specs.declared.request.Request.TheVariants.{AllocRunAt}
use Rattle.zp_zone.proofs.zone.Zone.alloc_run_at.Given as goal

abbrev pub ghosts-enter : goal.ghosts-enter
ghosts-enter a = record { request = AllocRunAt a.about.now.0 a.about.now.1 }
