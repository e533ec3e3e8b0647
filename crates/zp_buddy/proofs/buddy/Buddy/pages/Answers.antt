use Rattle.zp_buddy.proofs.Framed.{held_framed}
use Rattle.zp_buddy.proofs.buddy.Buddy.pages.Goals as goal

pub returns-clause-framed : goal.returns-clause-framed
returns-clause-framed c = rw (← c.self.view_is) (held_framed c.self.inside.area.largest c.self.inside.area c.self.inside.free c.self.invariant)
