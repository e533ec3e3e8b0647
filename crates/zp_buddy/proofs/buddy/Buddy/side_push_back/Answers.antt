use Rattle.zp_buddy.proofs.SideLists.{side_at, side_below, held_side, frames_side, loose_all, pushed_used, clear_pushed}
use Rattle.zp_buddy.proofs.buddy.Buddy.side_push_back.Goals as goal

pub side_push_back-requires-clause-list : goal.side_push_back-requires-clause-list
side_push_back-requires-clause-list c = side_below c.self.inside.area.largest c.self.inside.area c.args.list (rw (← c.self.view_is) at c.requires.list)

pub side_push_back-requires-clause-used : goal.side_push_back-requires-clause-used
side_push_back-requires-clause-used c = rw (← c.self.view_is) at c.requires.used

pub side_push_back-requires-clause-loose : goal.side_push_back-requires-clause-loose
side_push_back-requires-clause-loose c = loose_all c.self.invariant c.args.at (rw (← c.self.view_is) at c.requires.used) (rw (← c.self.view_is) at c.requires.loose)

pub invariant_of-self : goal.invariant_of-self
invariant_of-self c =
    rw c.side_push_back.ensures (held_side c.self.invariant c.args.list _ (side_below c.self.inside.area.largest c.self.inside.area c.args.list (rw (← c.self.view_is) at c.requires.list))
    (pushed_used c.self.invariant c.args.list c.args.at (rw (← c.self.view_is) at c.requires.used)))

pub returns-clause-after : goal.returns-clause-after
returns-clause-after c = rw (← c.self.view_is, c.side_push_back.ensures, ← side_at c.self.inside.area.largest c.self.inside.area c.args.list) (frames_side c.self.inside.area.largest c.self.inside.area c.args.list _)

pub returns-clause-kept : goal.returns-clause-kept
returns-clause-kept c h k out x = rw (returns-clause-after c) (clear_pushed c.args.self.now c.args.list c.args.at h k out x)
