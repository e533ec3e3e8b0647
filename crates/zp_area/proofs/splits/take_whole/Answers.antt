use Rattle.std.proofs.Common.{◌^◌, ◌≡◌, ◌/◌, length, refl, sym, ◌∙◌, ap, slice_index, arith}
use Rattle.zp_model.specs.Block.{IsBlock}
use Rattle.zp_area.specs.Blocks.{Blocks, block_set}
use Rattle.zp_area.specs.KeptSets.{set_of}
use Rattle.zp_area.proofs.Keeping.{blocks_length, counted_there, read_at}
use Rattle.zp_area.proofs.Removing.{kept_removed, removed_set}
use Rattle.zp_area.proofs.AvailableBlocks.{available-from, available-without}
use Rattle.zp_model.specs.Area.{available_blocks}
use Rattle.zp_tree.specs.Blocks.{without_block}
use Rattle.zp_area.proofs.Splitting.{block_on}
use Rattle.zp_area.proofs.splits.take_whole.Goals.{After-index_mut, Start}
use Rattle.zp_area.proofs.splits.take_whole.Goals as goal

block : (c : Start) → IsBlock c.args.blocks.now.largest (length c.args.blocks.now.lists.states) c.args.block.head c.args.block.order
block c = rw (← blocks_length c.args.blocks.now.lists.states) (c.requires.kept.one.blocks.block _ _ c.requires.block.starts)

pub take_out-requires-clause-on : goal.take_out-requires-clause-on
take_out-requires-clause-on c =
    let a : Blocks = set_of c.args.blocks.now in
    rw (c.requires.block.list, c.requires.block.typed) (block_on c.args.blocks.now.largest a c.args.block.head c.args.block.order c.requires.kept.one c.requires.block.starts)

read : (c : After-index_mut) → IsBlock c.args.blocks.now.largest (length c.args.blocks.now.lists.states) c.args.block.head c.args.block.order → c.index_mut.result.now ≡ slice_index c.args.blocks.now.free_in.items (c.args.block.head / 2 ^ c.args.blocks.now.largest)
read c b = read_at c.args.blocks.now.largest _ _ c.args.block.head c.args.block.order _ _ c.requires.kept.each b c.requires.here c.index_mut.ensures.value

pub index_mut-requires : goal.index_mut-requires
index_mut-requires c =
    omega (arith, c.requires.here, counted_there c.args.blocks.now.largest _ _ c.args.block.head c.args.block.order c.requires.kept.each (block (goal.at.index_mut-requires c).Start))

pub returns-clause-after : goal.returns-clause-after
returns-clause-after c = rw (c.take_out.ensures, c.requires.block.list, c.requires.block.typed) refl

pub overflow_sub-index_mut : goal.overflow_sub-index_mut
overflow_sub-index_mut c =
    let now = (goal.at.overflow_sub-index_mut c).After-index_mut in
    let before = (goal.at.overflow_sub-index_mut c).Start in
    omega (arith, read now (block before), c.pages.ensures.pages, (kept_removed c.args.blocks.now.largest _ c.args.block.head c.args.block.order c.requires.kept.one c.requires.block.starts _ c.requires.kept).most)

pub returns-clause-kept : goal.returns-clause-kept
returns-clause-kept c =
    let now = (goal.at.returns-clause-kept c).After-index_mut in
    let before = (goal.at.returns-clause-kept c).Start in
    rw (c.take_out.ensures, c.requires.block.list, c.requires.block.typed, c.requires.here, read now (block before), c.pages.ensures.pages)
    (kept_removed c.args.blocks.now.largest _ c.args.block.head c.args.block.order c.requires.kept.one c.requires.block.starts _ c.requires.kept).kept

pub clear-requires : goal.clear-requires
clear-requires c =
    let a : Blocks = set_of c.args.blocks.now in
    rw c.requires.told (available-from c.args.blocks.now.largest a.kinds (block_set a) c.args.block.head c.args.block.order c.requires.block.starts (rw c.requires.block.typed at c.requires.open))

pub returns-clause-told : goal.returns-clause-told
returns-clause-told c =
    let a : Blocks = set_of c.args.blocks.now in
    rw c.take_out.ensures
    (c.clear.ensures.after ∙ ap (λ s. without_block s c.args.block.head) c.requires.told ∙ sym (available-without c.args.blocks.now.largest a.kinds (block_set a) c.args.block.head)
    ∙ ap (available_blocks c.args.blocks.now.largest a.kinds) (sym (removed_set c.args.blocks.now.largest a c.args.block.head c.args.block.order c.requires.kept.one c.requires.block.starts)))

pub returns-clause-numbers : goal.returns-clause-numbers
returns-clause-numbers c =
    let now = (goal.at.returns-clause-numbers c).After-index_mut in
    rw (c.requires.here, read now (block (goal.at.returns-clause-numbers c).Start), c.pages.ensures.pages) refl
