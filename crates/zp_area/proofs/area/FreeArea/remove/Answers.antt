use Rattle.std.proofs.Common.{◌-◌, ◌/◌, ◌^◌, ◌≡◌, ◌∙◌, ap, arith, cond, length, refl, set, sym}
use Rattle.std.proofs.lemmas.Nat.{pow_pos}
use Rattle.zp_model.specs.declared.state.State.TheVariants.{Tail}
use Rattle.zp_model.specs.PageblockType.{is_isolate}
use Rattle.zp_model.specs.Block.{IsBlock}
use Rattle.zp_model.specs.BlockSet.{Starts}
use Rattle.zp_model.specs.Rows.{with_state}
use Rattle.zp_model.specs.Area.{available_blocks, kind_at}
use Rattle.zp_tree.specs.Blocks.{without_block}
use Rattle.zp_area.specs.Available.{choosable, isolated_sum}
use Rattle.zp_area.specs.Blocks.{Blocks, block_set, removed, taken_off}
use Rattle.zp_area.specs.OneSet.{IsKept}
use Rattle.zp_area.specs.KeptSets.{set_of}
use Rattle.zp_area.proofs.Keeping.{blocks_length, counted_there, kind_found, list_found, read_at, typed_there}
use Rattle.zp_area.proofs.AvailableBlocks.{available-from}
use Rattle.zp_area.proofs.Indexing.{indexed_anew, others_stand, pageblock_kept, started_there}
use Rattle.zp_area.proofs.Leaving.{sum_left, sum_most, told_without}
use Rattle.zp_area.proofs.OnePageblock.{changed_removed}
use Rattle.zp_area.proofs.Removing.{IsLessKept, kept_removed, removed_set}
use Rattle.zp_area.proofs.Splitting.{block_on}
use Rattle.zp_area.proofs.area.FreeArea.remove.Goals.{After-index_mut, After-index-kind, After-pageblock_of-pageblock, After-take_out}
use Rattle.zp_area.proofs.area.FreeArea.remove.Goals as goal

starts : (c : After-pageblock_of-pageblock) → Starts (block_set (set_of c.self.inside.blocks)) c.args.at c.args.order
starts c = rw (← c.self.view_is) at c.requires

block : (c : After-pageblock_of-pageblock) → IsBlock c.self.inside.blocks.largest (length c.self.inside.blocks.lists.states) c.args.at c.args.order
block c = rw (← blocks_length c.self.inside.blocks.lists.states) (c.self.invariant.kept.one.blocks.block c.args.at c.args.order (starts c))

less : (c : After-pageblock_of-pageblock) → IsLessKept c.self.inside.blocks.largest (set_of c.self.inside.blocks) c.self.inside.blocks.free_in.items c.args.at c.args.order
less c = kept_removed c.self.inside.blocks.largest (set_of c.self.inside.blocks) c.args.at c.args.order c.self.invariant.kept.one (starts c) c.self.inside.blocks.free_in.items c.self.invariant.kept

pub index-kind-requires : goal.index-kind-requires
index-kind-requires c =
    omega (arith, c.pageblock_of-pageblock.ensures, started_there c.self.inside.blocks.largest (set_of c.self.inside.blocks) c.args.at c.args.order c.self.invariant.kept.one (starts (goal.at.index-kind-requires c).After-pageblock_of-pageblock))

-- the pageblock's type, as it was read
kind : (c : After-index-kind) → c.index-kind.result.now ≡ kind_at c.self.inside.blocks.largest c.self.inside.blocks.kinds.items c.args.at
kind c =
    kind_found c.self.inside.blocks.largest (set_of c.self.inside.blocks) c.args.at c.args.order _ _ c.self.invariant.kept.one (block (goal.at.After-index-kind c).After-pageblock_of-pageblock) c.pageblock_of-pageblock.ensures c.index-kind.ensures

pub take_out-requires-clause-page : goal.take_out-requires-clause-page
take_out-requires-clause-page c = omega (arith, (block (goal.at.take_out-requires-clause-page c).After-pageblock_of-pageblock).inside, pow_pos c.args.order)

pub take_out-requires-clause-on : goal.take_out-requires-clause-on
take_out-requires-clause-on c =
    let before = (goal.at.take_out-requires-clause-on c).After-pageblock_of-pageblock in
    rw (list_found c.self.inside.blocks.largest (set_of c.self.inside.blocks) c.args.at c.args.order _ _ _ c.self.invariant.kept.one (block before) c.pageblock_of-pageblock.ensures c.index-kind.ensures c.list_of.ensures.number)
    (block_on c.self.inside.blocks.largest (set_of c.self.inside.blocks) c.args.at c.args.order c.self.invariant.kept.one (starts before))

-- the rows without the block
rows : (c : After-take_out) → c.take_out.new.lists ≡ (removed c.self.inside.blocks.largest (set_of c.self.inside.blocks) c.args.at c.args.order).rows
rows c =
    let before = (goal.at.After-take_out c).After-pageblock_of-pageblock in
    c.take_out.ensures ∙ ap (λ r. with_state (taken_off c.self.inside.blocks.lists r c.args.at) c.args.at Tail)
    (list_found c.self.inside.blocks.largest (set_of c.self.inside.blocks) c.args.at c.args.order _ _ _ c.self.invariant.kept.one (block before) c.pageblock_of-pageblock.ensures c.index-kind.ensures c.list_of.ensures.number)

pub tell_removed-requires : goal.tell_removed-requires
tell_removed-requires c = λ e.
    let a : Blocks = set_of c.self.inside.blocks in
    rw c.self.invariant.told (available-from c.self.inside.blocks.largest a.kinds (block_set a) c.args.at c.args.order (starts (goal.at.tell_removed-requires c).After-pageblock_of-pageblock)
    (ap is_isolate (sym (kind (goal.at.tell_removed-requires c).After-index-kind)) ∙ e))

pub count_no_more-requires : goal.count_no_more-requires
count_no_more-requires c = λ e.
    let before = (goal.at.count_no_more-requires c).After-pageblock_of-pageblock in
    let m = c.self.inside.blocks.largest in
    omega (
      arith,
      c.self.invariant.apart,
      (less before).most,
      sum_most c.self.inside.blocks.kinds.items c.self.inside.blocks.free_in.items (c.args.at / 2 ^ c.self.inside.blocks.largest)
          (typed_there c.self.inside.blocks.largest (set_of c.self.inside.blocks) c.args.at c.args.order c.self.invariant.kept.one (block before))
          (counted_there c.self.inside.blocks.largest _ _ c.args.at c.args.order c.self.invariant.kept.each (block before))
          (ap is_isolate (sym (kind (goal.at.count_no_more-requires c).After-index-kind)) ∙ e),
    )

pub index_mut-requires : goal.index_mut-requires
index_mut-requires c =
    omega (arith, c.pageblock_of-pageblock.ensures, counted_there c.self.inside.blocks.largest _ _ c.args.at c.args.order c.self.invariant.kept.each (block (goal.at.index_mut-requires c).After-pageblock_of-pageblock))

pub overflow_sub-index_mut : goal.overflow_sub-index_mut
overflow_sub-index_mut c =
    let before = (goal.at.overflow_sub-index_mut c).After-pageblock_of-pageblock in
    let r = read_at c.self.inside.blocks.largest _ _ c.args.at c.args.order _ _ c.self.invariant.kept.each (block before) c.pageblock_of-pageblock.ensures c.index_mut.ensures.value in
    omega (arith, r, c.pages.ensures.pages, (less before).most)

kept : (c : After-index_mut) → IsKept c.self.inside.blocks.largest (record (set_of c.self.inside.blocks) { rows = c.take_out.new.lists }) (set c.self.inside.blocks.free_in.items c.pageblock_of-pageblock.result (c.index_mut.result.now - c.pages.result))
kept c =
    let before = (goal.at.After-index_mut c).After-pageblock_of-pageblock in
    let r = read_at c.self.inside.blocks.largest _ _ c.args.at c.args.order _ _ c.self.invariant.kept.each (block before) c.pageblock_of-pageblock.ensures c.index_mut.ensures.value in
    rw (rows (goal.at.After-index_mut c).After-take_out, c.pageblock_of-pageblock.ensures, r, c.pages.ensures.pages) (less before).kept

told : (c : After-index_mut) → c.tell_removed.new.tree ≡ choosable c.self.inside.blocks.largest (record (set_of c.self.inside.blocks) { rows = c.take_out.new.lists })
told c =
    let a : Blocks = set_of c.self.inside.blocks in
    rw (rows (goal.at.After-index_mut c).After-take_out)
    (c.tell_removed.ensures ∙ ap (λ s. cond (is_isolate c.index-kind.result.now) s (without_block s c.args.at)) c.self.invariant.told
    ∙ told_without c.self.inside.blocks.largest a.kinds (block_set a) c.args.at c.index-kind.result.now (kind (goal.at.After-index_mut c).After-index-kind)
    ∙ ap (available_blocks c.self.inside.blocks.largest a.kinds) (sym (removed_set c.self.inside.blocks.largest a c.args.at c.args.order c.self.invariant.kept.one (starts (goal.at.After-index_mut c).After-pageblock_of-pageblock))))

apart : (c : After-index_mut) → c.count_no_more.new.isolated ≡ isolated_sum c.self.inside.blocks.kinds.items (set c.self.inside.blocks.free_in.items c.pageblock_of-pageblock.result (c.index_mut.result.now - c.pages.result))
apart c =
    let before = (goal.at.After-index_mut c).After-pageblock_of-pageblock in
    let r = read_at c.self.inside.blocks.largest _ _ c.args.at c.args.order _ _ c.self.invariant.kept.each (block before) c.pageblock_of-pageblock.ensures c.index_mut.ensures.value in
    rw (c.count_no_more.ensures, c.self.invariant.apart, c.pageblock_of-pageblock.ensures, r, c.pages.ensures.pages)
    (sum_left c.self.inside.blocks.kinds.items c.self.inside.blocks.free_in.items (c.args.at / 2 ^ c.self.inside.blocks.largest) (2 ^ c.args.order) c.index-kind.result.now (kind (goal.at.After-index_mut c).After-index-kind)
    (typed_there c.self.inside.blocks.largest (set_of c.self.inside.blocks) c.args.at c.args.order c.self.invariant.kept.one (block before))
    (counted_there c.self.inside.blocks.largest _ _ c.args.at c.args.order c.self.invariant.kept.each (block before))
    (less before).most)

pub changed-requires-clause-pageblocks : goal.changed-requires-clause-pageblocks
changed-requires-clause-pageblocks c = λ b lt.
    let before = (goal.at.changed-requires-clause-pageblocks c).After-index_mut in
    pageblock_kept c.self.inside.blocks.largest b _ _ _ (kept before) (told before) lt

pub changed-requires-clause-inside : goal.changed-requires-clause-inside
changed-requires-clause-inside c =
    rw c.pageblock_of-pageblock.ensures (started_there c.self.inside.blocks.largest (set_of c.self.inside.blocks) c.args.at c.args.order c.self.invariant.kept.one (starts (goal.at.changed-requires-clause-inside c).After-pageblock_of-pageblock))

pub changed-requires-clause-others : goal.changed-requires-clause-others
changed-requires-clause-others c =
    let before = (goal.at.changed-requires-clause-others c).After-index_mut in
    others_stand c.self.inside.blocks.largest c.pageblock_of-pageblock.result _ _ _ _ _ _ _ _ _ _ _ c.self.invariant (kept before) (told before)
    (rw (rows (goal.at.changed-requires-clause-others c).After-take_out) (changed_removed c.self.inside.blocks.largest c.pageblock_of-pageblock.result (set_of c.self.inside.blocks) c.args.at c.args.order (sym c.pageblock_of-pageblock.ensures)))

pub invariant_of-self : goal.invariant_of-self
invariant_of-self c =
    let before = (goal.at.invariant_of-self c).After-index_mut in
    indexed_anew c.self.inside.blocks.largest _ _ _ _ _ _ _ (kept before) (told before) (apart before) c.changed.ensures

pub returns : goal.returns
returns c = rw (← c.self.view_is, rows (goal.at.returns c).After-take_out) refl
