use Rattle.zp_buddy.proofs.SideLists.{side_at, side_below}
use Rattle.zp_buddy.proofs.buddy.Buddy.side_front.Goals as goal

pub side_front-requires : goal.side_front-requires
side_front-requires c = side_below c.self.inside.area.largest c.self.inside.area c.args.list (rw (← c.self.view_is) at c.requires)

pub returns : goal.returns
returns c = rw (← c.self.view_is, ← side_at c.self.inside.area.largest c.self.inside.area c.args.list) c.side_front.ensures
