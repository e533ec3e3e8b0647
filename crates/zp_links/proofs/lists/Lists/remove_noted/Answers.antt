use Rattle.std.proofs.Common.{set, refl}
use Rattle.zp_model.specs.Rows.{list_at, with_list, with_state, without_page}
use Rattle.zp_links.proofs.Writes.{Spell, linked_in, removed_noted, length-back, length-forward}
use Rattle.zp_links.proofs.Telling.{within, next_stands, previous_stands, row_in}
use Rattle.zp_links.proofs.Moving.{taken_off}
use Rattle.zp_links.proofs.lists.Lists.remove_noted.Goals.{After-set}
use Rattle.zp_links.proofs.lists.Lists.remove_noted.Goals as goal

pub close_gap-requires-clause-page : goal.close_gap-requires-clause-page
close_gap-requires-clause-page c = within _ _ _ (linked_in _ _ _ c.self.view_is c.self.invariant) c.args.list c.args.at c.requires

pub close_gap-requires-clause-back : goal.close_gap-requires-clause-back
close_gap-requires-clause-back c = previous_stands _ _ _ (linked_in _ _ _ c.self.view_is c.self.invariant) c.args.list c.args.at c.requires

pub close_gap-requires-clause-forward : goal.close_gap-requires-clause-forward
close_gap-requires-clause-forward c = next_stands _ _ _ (linked_in _ _ _ c.self.view_is c.self.invariant) c.args.list c.args.at c.requires

pub set-requires : goal.set-requires
set-requires c = rw (c.close_gap.ensures.table, length-forward, length-back) (within _ _ _ (linked_in _ _ _ c.self.view_is c.self.invariant) c.args.list c.args.at c.requires)

wrote : (c : After-set) → Spell c.set.new.self (set c.self.inside.ends.items c.args.list c.close_gap.new.ends)
    (with_state (with_list c.args.self.now c.args.list (without_page c.args.at (list_at c.args.self.now.lists c.args.list))) c.args.at c.args.state)
wrote c =
    removed_noted c.args.self.now c.args.list c.args.at c.args.state c.self.inside.table _ c.self.inside.ends.items c.index_mut.result.now _ c.self.view_is c.self.invariant c.requires c.index_mut.ensures.value
    (rw (c.set.ensures, c.close_gap.ensures.table, c.none-nowhere.ensures) refl) c.close_gap.ensures.first c.close_gap.ensures.last c.close_gap.ensures.len

pub invariant_of-self : goal.invariant_of-self
invariant_of-self c = (wrote (goal.at.invariant_of-self c).After-set).0

pub returns-clause-after : goal.returns-clause-after
returns-clause-after c = (wrote (goal.at.returns-clause-after c).After-set).1

pub returns-clause-loose : goal.returns-clause-loose
returns-clause-loose c =
    (taken_off (with_state c.args.self.now c.args.at c.args.state) _ _ c.args.list c.args.at (row_in _ _ _ c.self.view_is c.self.invariant) c.requires (returns-clause-after c)).0

pub returns-clause-others : goal.returns-clause-others
returns-clause-others c =
    (taken_off (with_state c.args.self.now c.args.at c.args.state) _ _ c.args.list c.args.at (row_in _ _ _ c.self.view_is c.self.invariant) c.requires (returns-clause-after c)).1
