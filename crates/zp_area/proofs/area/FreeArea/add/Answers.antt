use Rattle.std.proofs.Common.{◌+◌, ◌/◌, ◌^◌, ◌≡◌, ◌<◌, ◌∙◌, ap, arith, cond, length, refl, set, sym}
use Rattle.std.proofs.Math.Pow.{pow_mono}
use Rattle.zp_model.specs.PageblockType.{is_isolate}
use Rattle.zp_model.specs.Area.{available_blocks, kind_at}
use Rattle.zp_tree.specs.Blocks.{with_block}
use Rattle.zp_area.specs.Available.{choosable, isolated_sum}
use Rattle.zp_area.specs.Blocks.{Blocks, block_set, added}
use Rattle.zp_area.specs.OneSet.{IsKept}
use Rattle.zp_area.specs.KeptSets.{set_of}
use Rattle.zp_area.proofs.Keeping.{block_of_more, counted_there, kind_found, list_found, read_at, typed_there}
use Rattle.zp_area.proofs.AvailableBlocks.{available-length, available_apart, told_with}
use Rattle.zp_area.proofs.IsolatedPages.{sum_added}
use Rattle.zp_area.proofs.Indexing.{indexed_anew, isolated_most, others_stand, pageblock_kept}
use Rattle.zp_area.proofs.OneBlock.{head_below}
use Rattle.zp_area.proofs.OnePageblock.{changed_added}
use Rattle.zp_area.proofs.Adding.{IsComing, added_set, added_starts, clear_beside, coming_apart, coming_by, coming_loose, coming_new, kept_added, now_added}
use Rattle.zp_area.proofs.area.FreeArea.add.Goals.{After-index_mut, After-index-kind}
use Rattle.zp_area.proofs.area.FreeArea.add.Goals as goal

coming : (c : After-index-kind) → IsComing c.self.inside.blocks.largest (set_of c.self.inside.blocks) c.args.at c.args.order
coming c = coming_by (set_of c.self.inside.blocks) _ _ _ c.self.view_is c.self.invariant.kept.one c.requires.block c.requires.clear

pub push_front_noted-requires-clause-loose : goal.push_front_noted-requires-clause-loose
push_front_noted-requires-clause-loose c = coming_loose (coming (goal.at.push_front_noted-requires-clause-loose c).After-index-kind)

pub tell_added-requires-clause-block : goal.tell_added-requires-clause-block
tell_added-requires-clause-block c = λ e.
    let a : Blocks = set_of c.self.inside.blocks in
    let x = coming (goal.at.tell_added-requires-clause-block c).After-index-kind in
    rw (c.self.invariant.told, available-length c.self.inside.blocks.largest a.kinds (block_set a)) (block_of_more (omega arith) (coming_new x).block)

pub tell_added-requires-clause-apart : goal.tell_added-requires-clause-apart
tell_added-requires-clause-apart c = λ e.
    let a : Blocks = set_of c.self.inside.blocks in
    let x = coming (goal.at.tell_added-requires-clause-apart c).After-index-kind in
    rw c.self.invariant.told (available_apart c.self.inside.blocks.largest a.kinds (block_set a) c.args.at c.args.order (coming_apart x))

pub count_isolated-requires : goal.count_isolated-requires
count_isolated-requires c =
    omega (arith, c.self.invariant.apart, isolated_most c.self.inside.blocks.largest (set_of c.self.inside.blocks) _ c.self.invariant.kept, pow_mono {i = c.args.order} {j = 10} (omega arith))

pub overflow_add-index_mut : goal.overflow_add-index_mut
overflow_add-index_mut c =
    let x = coming (goal.at.overflow_add-index_mut c).After-index-kind in
    let r = read_at c.self.inside.blocks.largest _ _ c.args.at c.args.order _ _ c.self.invariant.kept.each x.block c.pageblock_of-pageblock.ensures c.index_mut.ensures.value in
    omega (arith, r, c.pages.ensures.pages, (kept_added x _ c.self.invariant.kept).fits, pow_mono {i = c.self.inside.blocks.largest} {j = 10} (omega arith))

-- the rows with the block
rows : (c : After-index_mut) → c.push_front_noted.new.self ≡ (added c.self.inside.blocks.largest (set_of c.self.inside.blocks) c.args.at c.args.order).rows
rows c =
    let a : Blocks = set_of c.self.inside.blocks in
    let x = coming (goal.at.After-index_mut c).After-index-kind in
    now_added c.self.inside.blocks.largest a c.args.at c.args.order c.list_of-list.result c.push_front_noted.new.self c.push_front_noted.ensures.after
    (list_found c.self.inside.blocks.largest a c.args.at c.args.order _ _ _ x.one x.block c.pageblock_of-pageblock.ensures c.index-kind.ensures c.list_of-list.ensures.number)

kept : (c : After-index_mut) → IsKept c.self.inside.blocks.largest (record (set_of c.self.inside.blocks) { rows = c.push_front_noted.new.self }) (set c.self.inside.blocks.free_in.items c.pageblock_of-pageblock.result (c.index_mut.result.now + c.pages.result))
kept c =
    let x = coming (goal.at.After-index_mut c).After-index-kind in
    let r = read_at c.self.inside.blocks.largest _ _ c.args.at c.args.order _ _ c.self.invariant.kept.each x.block c.pageblock_of-pageblock.ensures c.index_mut.ensures.value in
    rw (rows c, c.pageblock_of-pageblock.ensures, r, c.pages.ensures.pages) (kept_added x _ c.self.invariant.kept).kept

kind : (c : After-index_mut) → c.index-kind.result.now ≡ kind_at c.self.inside.blocks.largest c.self.inside.blocks.kinds.items c.args.at
kind c =
    let x = coming (goal.at.After-index_mut c).After-index-kind in
    kind_found c.self.inside.blocks.largest (set_of c.self.inside.blocks) c.args.at c.args.order _ _ x.one x.block c.pageblock_of-pageblock.ensures c.index-kind.ensures

told : (c : After-index_mut) → c.tell_added.new.tree ≡ choosable c.self.inside.blocks.largest (record (set_of c.self.inside.blocks) { rows = c.push_front_noted.new.self })
told c =
    let a : Blocks = set_of c.self.inside.blocks in
    let x = coming (goal.at.After-index_mut c).After-index-kind in
    rw (rows c)
    (c.tell_added.ensures ∙ ap (λ s. cond (is_isolate c.index-kind.result.now) s (with_block s c.args.at c.args.order)) c.self.invariant.told
    ∙ told_with c.self.inside.blocks.largest a.kinds (block_set a) c.args.at c.args.order c.index-kind.result.now (kind c) (head_below c.self.inside.blocks.largest _ _ _ (coming_new x).block)
    ∙ ap (available_blocks c.self.inside.blocks.largest a.kinds) (sym (added_set x)))

apart : (c : After-index_mut) → c.count_isolated.new.isolated ≡ isolated_sum c.self.inside.blocks.kinds.items (set c.self.inside.blocks.free_in.items c.pageblock_of-pageblock.result (c.index_mut.result.now + c.pages.result))
apart c =
    let x = coming (goal.at.After-index_mut c).After-index-kind in
    let m = c.self.inside.blocks.largest in
    let r = read_at c.self.inside.blocks.largest _ _ c.args.at c.args.order _ _ c.self.invariant.kept.each x.block c.pageblock_of-pageblock.ensures c.index_mut.ensures.value in
    rw (c.count_isolated.ensures, c.self.invariant.apart, c.pageblock_of-pageblock.ensures, r, c.pages.ensures.pages)
    (sum_added c.self.inside.blocks.kinds.items c.self.inside.blocks.free_in.items (c.args.at / 2 ^ c.self.inside.blocks.largest) (2 ^ c.args.order) c.index-kind.result.now (kind c)
    (typed_there c.self.inside.blocks.largest (set_of c.self.inside.blocks) c.args.at c.args.order x.one x.block)
    (counted_there c.self.inside.blocks.largest _ _ c.args.at c.args.order c.self.invariant.kept.each x.block))

there : (c : After-index_mut) → c.pageblock_of-pageblock.result < length c.self.inside.blocks.kinds.items
there c =
    let x = coming (goal.at.After-index_mut c).After-index-kind in
    rw c.pageblock_of-pageblock.ensures (typed_there c.self.inside.blocks.largest (set_of c.self.inside.blocks) c.args.at c.args.order x.one x.block)

pub changed-requires-clause-pageblocks : goal.changed-requires-clause-pageblocks
changed-requires-clause-pageblocks c = λ b lt.
    let before = (goal.at.changed-requires-clause-pageblocks c).After-index_mut in
    pageblock_kept c.self.inside.blocks.largest b _ _ _ (kept before) (told before) lt

pub changed-requires-clause-inside : goal.changed-requires-clause-inside
changed-requires-clause-inside c = there (goal.at.changed-requires-clause-inside c).After-index_mut

pub changed-requires-clause-others : goal.changed-requires-clause-others
changed-requires-clause-others c =
    let before = (goal.at.changed-requires-clause-others c).After-index_mut in
    others_stand c.self.inside.blocks.largest c.pageblock_of-pageblock.result _ _ _ _ _ _ _ _ _ _ _ c.self.invariant (kept before) (told before)
    (rw (rows before) (changed_added c.self.inside.blocks.largest c.pageblock_of-pageblock.result (set_of c.self.inside.blocks) c.args.at c.args.order (sym c.pageblock_of-pageblock.ensures)))

pub invariant_of-self : goal.invariant_of-self
invariant_of-self c =
    let before = (goal.at.invariant_of-self c).After-index_mut in
    indexed_anew c.self.inside.blocks.largest _ _ _ _ _ _ _ (kept before) (told before) (apart before) c.changed.ensures

pub returns-clause-held : goal.returns-clause-held
returns-clause-held c =
    let before = (goal.at.returns-clause-held c).After-index_mut in
    rw (rows before) (added_starts (coming (goal.at.returns-clause-held c).After-index-kind))

pub returns-clause-still_clear : goal.returns-clause-still_clear
returns-clause-still_clear c =
    let before = (goal.at.returns-clause-still_clear c).After-index_mut in
    rw (← c.self.view_is, rows before) (clear_beside (coming (goal.at.returns-clause-still_clear c).After-index-kind))

pub returns-clause-after : goal.returns-clause-after
returns-clause-after c =
    let before = (goal.at.returns-clause-after c).After-index_mut in
    rw (← c.self.view_is, rows before) refl
