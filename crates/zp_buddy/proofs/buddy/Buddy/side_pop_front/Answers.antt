use Rattle.zp_buddy.proofs.SideLists.{side_at, side_below, held_side, frames_side, popped_used, popped_head, popped_loose, clear_popped}
use Rattle.zp_buddy.proofs.buddy.Buddy.side_pop_front.Goals as goal

pub side_pop_front-requires : goal.side_pop_front-requires
side_pop_front-requires c = side_below c.self.inside.area.largest c.self.inside.area c.args.list (rw (← c.self.view_is) at c.requires)

pub invariant_of-self : goal.invariant_of-self
invariant_of-self c =
    rw c.side_pop_front.ensures.after (held_side c.self.invariant c.args.list _ (side_below c.self.inside.area.largest c.self.inside.area c.args.list (rw (← c.self.view_is) at c.requires))
    (popped_used c.self.invariant c.args.list))

pub returns-clause-answer : goal.returns-clause-answer
returns-clause-answer c = rw (← c.self.view_is, ← side_at c.self.inside.area.largest c.self.inside.area c.args.list) c.side_pop_front.ensures.answer

pub returns-clause-after : goal.returns-clause-after
returns-clause-after c = rw (← c.self.view_is, c.side_pop_front.ensures.after, ← side_at c.self.inside.area.largest c.self.inside.area c.args.list) (frames_side c.self.inside.area.largest c.self.inside.area c.args.list _)

pub returns-clause-kept : goal.returns-clause-kept
returns-clause-kept c h k x = rw (returns-clause-after c) (clear_popped c.args.self.now c.args.list h k x)

pub returns-clause-head : goal.returns-clause-head
returns-clause-head c =
    rw c.side_pop_front.ensures.after (popped_head c.self.invariant _ c.args.list _ c.side_pop_front.ensures.answer (rw c.side_pop_front.ensures.after at c.side_pop_front.ensures.page))

pub returns-clause-loose : goal.returns-clause-loose
returns-clause-loose c = popped_loose _ _ _ c.side_pop_front.ensures.loose
