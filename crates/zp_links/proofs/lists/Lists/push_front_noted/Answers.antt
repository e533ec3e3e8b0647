use Rattle.std.proofs.Common.{◌+◌, ◌∙◌, ap, refl, arith, set, None, ◌∷◌}
use Rattle.zp_model.specs.Rows.{list_at, with_list, with_state}
use Rattle.zp_links.specs.declared.ends.Ends.{Ends}
use Rattle.zp_links.proofs.Splice.{count_small}
use Rattle.zp_links.proofs.Writes.{Spell, pushed_noted, linked_in, read_ends}
use Rattle.zp_links.proofs.Moving.{pushed_front}
use Rattle.zp_links.proofs.lists.Lists.push_front_noted.Goals.{After-set_back_or_last}
use Rattle.zp_links.proofs.lists.Lists.push_front_noted.Goals as goal

pub overflow_add-ends : goal.overflow_add-ends
overflow_add-ends c =
    omega (arith, count_small _ _ _ c.self.invariant c.args.list, ap (λ (e : Ends). e.len) (read_ends _ _ _ _ _ c.self.view_is c.self.invariant c.requires.list c.index_mut-ends.ensures.value))

wrote : (c : After-set_back_or_last) → Spell c.set_back_or_last.new.table (set c.self.inside.ends.items c.args.list (record { first = c.to-here.result; last = c.set_back_or_last.new.last; len = c.index_mut-ends.result.now.len + 1 }))
    (with_list (with_state c.args.self.now c.args.at c.args.state) c.args.list (c.args.at ∷ list_at c.args.self.now.lists c.args.list))
wrote c =
    let e = c.index_mut-ends.result.now in
    let first = ap (λ (e : Ends). e.first) (read_ends _ _ _ _ _ c.self.view_is c.self.invariant c.requires.list c.index_mut-ends.ensures.value) ∙ (linked_in _ _ _ c.self.view_is c.self.invariant).front c.args.list in
    pushed_noted c.args.self.now c.args.list 0 c.args.at c.args.state c.self.inside.table _ c.self.inside.ends.items e _ None e.first c.self.view_is c.self.invariant c.requires.list c.requires.page c.requires.loose (omega arith) refl first
    c.index_mut-ends.ensures.value (rw (c.set_back_or_last.ensures.table, c.set.ensures, c.none.ensures, c.to-here.ensures) refl) c.to-here.ensures (rw (← c.to-here.ensures) c.set_back_or_last.ensures.last) refl

pub invariant_of-self : goal.invariant_of-self
invariant_of-self c = (wrote (goal.at.invariant_of-self c).After-set_back_or_last).0

pub returns-clause-after : goal.returns-clause-after
returns-clause-after c = (wrote (goal.at.returns-clause-after c).After-set_back_or_last).1

pub returns-clause-on : goal.returns-clause-on
returns-clause-on c = (pushed_front (with_state c.args.self.now c.args.at c.args.state) _ c.args.list c.args.at c.requires.list (returns-clause-after c)).0

pub returns-clause-others : goal.returns-clause-others
returns-clause-others c = (pushed_front (with_state c.args.self.now c.args.at c.args.state) _ c.args.list c.args.at c.requires.list (returns-clause-after c)).1
