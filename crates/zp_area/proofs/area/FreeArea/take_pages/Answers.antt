use Rattle.std.proofs.Common.{◌<◌, ◌≡◌, ◌∙◌, ap, false, slice_index_or, length, sym}
use Rattle.zp_model.specs.BlockSet.{Starts}
use Rattle.zp_area.specs.Blocks.{Blocks, block_set}
use Rattle.zp_model.specs.declared.pageblock_type.PageblockType.TheVariants.{Movable}
use Rattle.zp_model.specs.PageblockType.{is_isolate, pageblock_type}
use Rattle.zp_model.specs.Area.{kind_at}
use Rattle.zp_laws.proofs.Choosing.{asked-not_isolate}
use Rattle.zp_area.specs.Available.{isolated_sum}
use Rattle.zp_area.specs.KeptSets.{set_of}
use Rattle.zp_area.proofs.IsolatedPages.{sum_open}
use Rattle.zp_area.proofs.Indexing.{indexed_anew, others_stand, pageblock_kept, started_there}
use Rattle.zp_area.proofs.SplitPages.{changed_pages}
use Rattle.zp_area.proofs.area.FreeArea.take_pages.Goals.{After-pageblock_of-pageblock}
use Rattle.zp_area.proofs.area.FreeArea.take_pages.Goals as goal

starts : (c : After-pageblock_of-pageblock) → Starts (block_set (set_of c.self.inside.blocks)) c.args.block.head c.args.block.order
starts c = rw (← c.self.view_is) at c.requires.block.starts

there : (c : After-pageblock_of-pageblock) → c.pageblock_of-pageblock.result < length c.self.inside.blocks.kinds.items
there c = rw c.pageblock_of-pageblock.ensures (started_there c.self.inside.blocks.largest (set_of c.self.inside.blocks) c.args.block.head c.args.block.order c.self.invariant.kept.one (starts c))

pub changed-requires-clause-pageblocks : goal.changed-requires-clause-pageblocks
changed-requires-clause-pageblocks c = rw (c.split_pages.ensures.stays.0, c.split_pages.ensures.stays.1) (λ b lt. pageblock_kept c.self.inside.blocks.largest b _ _ _ c.split_pages.ensures.kept c.split_pages.ensures.told lt)

pub changed-requires-clause-inside : goal.changed-requires-clause-inside
changed-requires-clause-inside c = rw c.split_pages.ensures.stays.1 (there (goal.at.changed-requires-clause-inside c).After-pageblock_of-pageblock)

pub changed-requires-clause-others : goal.changed-requires-clause-others
changed-requires-clause-others c =
    let a : Blocks = set_of c.self.inside.blocks in
    rw (c.split_pages.ensures.stays.0, c.split_pages.ensures.stays.1) (others_stand c.self.inside.blocks.largest c.pageblock_of-pageblock.result _ _ _ _ _ _ _ _ _ _ _ c.self.invariant c.split_pages.ensures.kept c.split_pages.ensures.told
    (rw c.split_pages.ensures.after (changed_pages c.self.inside.blocks.largest c.pageblock_of-pageblock.result a c.args.block.head c.args.block.order c.args.pages c.self.invariant.kept.one (starts (goal.at.changed-requires-clause-others c).After-pageblock_of-pageblock) (sym c.pageblock_of-pageblock.ensures))))

-- the pageblock is not isolated, as it has a migrate type
kind : (c : After-pageblock_of-pageblock) → pageblock_type c.args.kind ≡ kind_at c.self.inside.blocks.largest c.self.inside.blocks.kinds.items c.args.block.head
kind c = rw (← c.self.view_is) at c.requires.block.typed

pub split_pages-requires-clause-block : goal.split_pages-requires-clause-block
split_pages-requires-clause-block c = rw c.pageblock_type.ensures (rw (← c.self.view_is) at c.requires.block)

pub split_pages-requires-clause-open : goal.split_pages-requires-clause-open
split_pages-requires-clause-open c = ap is_isolate c.pageblock_type.ensures ∙ asked-not_isolate c.args.kind

pub invariant_of-self : goal.invariant_of-self
invariant_of-self c =
    let before = (goal.at.invariant_of-self c).After-pageblock_of-pageblock in
    let shown : is_isolate (kind_at c.self.inside.blocks.largest c.self.inside.blocks.kinds.items c.args.block.head) ≡ false = ap is_isolate (sym (kind before)) ∙ asked-not_isolate c.args.kind in
    let same = ap (λ q. is_isolate (slice_index_or c.self.inside.blocks.kinds.items q Movable)) c.pageblock_of-pageblock.ensures ∙ shown in
    rw (c.split_pages.ensures.stays.0, c.split_pages.ensures.stays.1) (indexed_anew c.self.inside.blocks.largest _ _ _ _ _ _ _ c.split_pages.ensures.kept c.split_pages.ensures.told
    (c.self.invariant.apart ∙ sym (ap (isolated_sum c.self.inside.blocks.kinds.items) c.split_pages.ensures.numbers ∙ sum_open c.self.inside.blocks.kinds.items c.self.inside.blocks.free_in.items c.pageblock_of-pageblock.result _ same)) (rw (c.split_pages.ensures.stays.0, c.split_pages.ensures.stays.1) at c.changed.ensures))
