use Rattle.std.proofs.Common.{ap, ℕ, ◌≡◌, ◌+◌, List, length, ◌∙◌}
use Rattle.std.proofs.lemmas.List.{length-replicate}
use Rattle.zp_model.specs.declared.state.State.TheVariants.{Tail}
use Rattle.zp_model.specs.Area.{lists_count}
use Rattle.zp_buddy.specs.Opened.{all_movable, IsOpenedTo}
use Rattle.zp_buddy.proofs.OpenedPages.{none_opened, opened_frames, opened_held}
use Rattle.zp_area.specs.Blocks.{Blocks}
use Rattle.zp_buddy.proofs.buddy.Buddy.new.Goals as goal

-- what adding all pages leaves
record IsFull (c : goal.After-add_all_pages) : Type 0 where
  largest : c.add_all_pages.new.area.largest ≡ c.args.largest
  opened : IsOpenedTo c.args.largest c.args.pages c.args.pages c.add_all_pages.new.area.rows.states c.add_all_pages.new.area.rows.lists
  table : length c.add_all_pages.new.area.rows.lists ≡ lists_count c.args.largest + c.args.side
  kinds : c.add_all_pages.new.area.kinds ≡ all_movable c.args.largest c.args.pages

full : (c : goal.After-add_all_pages) → IsFull c
full c = record {
  largest = c.add_all_pages.ensures.largest ∙ ap (λ (q : Blocks). q.largest) c.in_ok-area.ensures;
  opened = rw (c.in_ok-area.ensures, length-replicate c.args.pages Tail) at c.add_all_pages.ensures.opened;
  table = c.add_all_pages.ensures.table ∙ rw c.in_ok-area.ensures (length-replicate {A = List ℕ} _ _);
  kinds = c.add_all_pages.ensures.kinds ∙ (rw c.in_ok-area.ensures);
}

pub invariant_of-result : goal.invariant_of-result
invariant_of-result c = let x = full c in rw (x.largest, x.kinds) (opened_held x.opened c.args.side c.requires.pages x.table)

pub returns : goal.returns
returns c = let x = full c in rw (x.largest, x.kinds) (opened_frames x.opened c.args.side c.requires.pages x.table)

pub add_all_pages-requires-clause-bare : goal.add_all_pages-requires-clause-bare
add_all_pages-requires-clause-bare c = rw c.in_ok-area.ensures (none_opened c.args.largest c.args.pages c.args.side)
