use Rattle.std.proofs.Common.{◌≡◌, ◌∙◌, ◌-◌, refl, sym, set, Some, None}
use Rattle.zp_model.specs.Rows.{list_at, with_list, with_state, without_page}
use Rattle.zp_model.proofs.RowLists.{front_stands}
use Rattle.zp_links.specs.Linked.{back_at}
use Rattle.zp_links.proofs.Places.{front_is}
use Rattle.zp_links.proofs.Writes.{Spell, linked_in, removed_noted}
use Rattle.zp_links.proofs.Telling.{next_stands, row_in}
use Rattle.zp_links.proofs.Moving.{taken_off}
use Rattle.zp_links.proofs.lists.Lists.remove_front_noted.Goals.{After-set}
use Rattle.zp_links.proofs.lists.Lists.remove_front_noted.Goals as goal

pub set_back_or_last-requires : goal.set_back_or_last-requires
set_back_or_last-requires c =
    rw c.forward-next.ensures (next_stands _ _ _ (linked_in _ _ _ c.self.view_is c.self.invariant) c.args.list c.args.at (front_stands _ (Some c.args.at) (sym c.requires)))

-- no page stands before it, so the neighbours that are made each other's are none and the page after it
wrote : (c : After-set) → Spell c.set.new.self (set c.self.inside.ends.items c.args.list (record { first = c.forward-next.result; last = c.set_back_or_last.new.last; len = c.index_mut-ends.result.now.len - 1 }))
    (with_state (with_list c.args.self.now c.args.list (without_page c.args.at (list_at c.args.self.now.lists c.args.list))) c.args.at c.args.state)
wrote c =
    let none : back_at c.self.inside.table c.args.at ≡ None = (linked_in _ _ _ c.self.view_is c.self.invariant).first c.args.list 0 c.args.at (sym (front_is _) ∙ c.requires) in
    removed_noted c.args.self.now c.args.list c.args.at c.args.state c.self.inside.table _ c.self.inside.ends.items c.index_mut-ends.result.now _ c.self.view_is c.self.invariant (front_stands _ (Some c.args.at) (sym c.requires)) c.index_mut-ends.ensures.value
    (rw (none, c.set.ensures, c.set_back_or_last.ensures.table, c.none-nowhere.ensures, c.forward-next.ensures) refl) (rw (none, c.forward-next.ensures) refl) (rw (none, ← c.none-nowhere.ensures, ← c.forward-next.ensures) c.set_back_or_last.ensures.last) refl

pub invariant_of-self : goal.invariant_of-self
invariant_of-self c = (wrote (goal.at.invariant_of-self c).After-set).0

pub returns-clause-after : goal.returns-clause-after
returns-clause-after c = (wrote (goal.at.returns-clause-after c).After-set).1

pub returns-clause-loose : goal.returns-clause-loose
returns-clause-loose c =
    (taken_off (with_state c.args.self.now c.args.at c.args.state) _ _ c.args.list c.args.at (row_in _ _ _ c.self.view_is c.self.invariant) (front_stands _ (Some c.args.at) (sym c.requires)) (returns-clause-after c)).0

pub returns-clause-others : goal.returns-clause-others
returns-clause-others c =
    (taken_off (with_state c.args.self.now c.args.at c.args.state) _ _ c.args.list c.args.at (row_in _ _ _ c.self.view_is c.self.invariant) (front_stands _ (Some c.args.at) (sym c.requires)) (returns-clause-after c)).1
