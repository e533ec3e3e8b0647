use Rattle.std.proofs.Common.{◌+◌, ◌∙◌, ap, refl, sym, arith, set, length, None, [], ◌∷◌, ◌++◌}
use Rattle.std.proofs.lemmas.Option.{slice_get_past}
use Rattle.zp_model.specs.Rows.{list_at, with_list}
use Rattle.zp_links.specs.declared.ends.Ends.{Ends}
use Rattle.zp_links.proofs.Places.{put_last}
use Rattle.zp_links.proofs.Splice.{count_small}
use Rattle.zp_links.proofs.Writes.{Spell, pushed, linked_in, read_ends}
use Rattle.zp_links.proofs.Moving.{pushed_back}
use Rattle.zp_links.proofs.lists.Lists.push_back.Goals.{After-set_forward_or_first}
use Rattle.zp_links.proofs.lists.Lists.push_back.Goals as goal

pub overflow_add-ends : goal.overflow_add-ends
overflow_add-ends c =
    omega (arith, count_small _ _ _ c.self.invariant c.args.list, ap (λ (e : Ends). e.len) (read_ends _ _ _ _ _ c.self.view_is c.self.invariant c.requires.list c.index_mut-ends.ensures.value))

wrote : (c : After-set_forward_or_first) → Spell c.set_forward_or_first.new.table (set c.self.inside.ends.items c.args.list (record { first = c.set_forward_or_first.new.first; last = c.to-here.result; len = c.index_mut-ends.result.now.len + 1 }))
    (with_list c.args.self.now c.args.list (list_at c.args.self.now.lists c.args.list ++ c.args.at ∷ []))
wrote c =
    let xs = list_at c.args.self.now.lists c.args.list in
    let e = c.index_mut-ends.result.now in
    let last = ap (λ (e : Ends). e.last) (read_ends _ _ _ _ _ c.self.view_is c.self.invariant c.requires.list c.index_mut-ends.ensures.value) ∙ (linked_in _ _ _ c.self.view_is c.self.invariant).back c.args.list in
    rw (← put_last xs c.args.at) (pushed c.args.self.now c.args.list (length xs) c.args.at c.self.inside.table _ c.self.inside.ends.items e _ e.last None c.self.view_is c.self.invariant c.requires.list c.requires.page c.requires.loose
    (omega arith) last (sym (slice_get_past xs (length xs) (omega arith))) c.index_mut-ends.ensures.value (rw (c.set_forward_or_first.ensures.table, c.set_links.ensures, c.none.ensures, c.to-here.ensures) refl)
    (rw (← c.to-here.ensures) c.set_forward_or_first.ensures.first) c.to-here.ensures refl)

pub invariant_of-self : goal.invariant_of-self
invariant_of-self c = (wrote (goal.at.invariant_of-self c).After-set_forward_or_first).0

pub returns-clause-after : goal.returns-clause-after
returns-clause-after c = (wrote (goal.at.returns-clause-after c).After-set_forward_or_first).1

pub returns-clause-on : goal.returns-clause-on
returns-clause-on c = (pushed_back c.args.self.now _ c.args.list c.args.at c.requires.list (returns-clause-after c)).0

pub returns-clause-others : goal.returns-clause-others
returns-clause-others c = (pushed_back c.args.self.now _ c.args.list c.args.at c.requires.list (returns-clause-after c)).1
