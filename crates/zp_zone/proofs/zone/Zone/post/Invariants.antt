use Rattle.zp_model.specs.declared.request.Request.TheVariants.{Post}
use Rattle.zp_zone.proofs.zone.Zone.post.Given as goal

abbrev pub ghosts-enter : goal.ghosts-enter
ghosts-enter a = record { request = Post a.about.now.0 a.about.now.1 a.about.now.2 }
