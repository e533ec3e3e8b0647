use Rattle.zp_zone.proofs.PostSteps.{within_in}
use Rattle.zp_zone.proofs.untied_zone.UntiedZone.posted_pages.Goals as goal

pub returns-clause-within : goal.returns-clause-within
returns-clause-within c = within_in c.args.self.now _ _ _ _ _ c.self.view_is c.self.invariant
