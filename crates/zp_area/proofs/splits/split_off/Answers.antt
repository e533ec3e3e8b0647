use Rattle.std.proofs.Common.{◌≡◌, ◌<◌, ◌+◌, ◌-◌, ◌/◌, ◌^◌, length, refl, sym, ◌∙◌, ap, slice_index, arith}
use Rattle.zp_model.specs.Block.{IsBlock}
use Rattle.zp_area.specs.Blocks.{Blocks, block_set}
use Rattle.zp_area.specs.KeptSets.{set_of}
use Rattle.zp_area.proofs.AvailableBlocks.{available-from, available-split}
use Rattle.zp_model.specs.Area.{available_blocks, list_number, pageblock_pages}
use Rattle.zp_model.specs.PageblockType.{pageblock_types}
use Rattle.zp_model.proofs.Heads.{two}
use Rattle.zp_tree.specs.Blocks.{split_set}
use Rattle.zp_area.proofs.Keeping.{blocks_length, counted_there, read_at}
use Rattle.zp_area.proofs.Splitting.{IsSplitting, block_on, half_kind, half_list, half_loose, half_page, split_begins, split_ends, split_goes}
use Rattle.zp_area.proofs.splits.split_off.Goals.{After-lower-order, After-lower-order-in-halves, After-index_mut, Start}
use Rattle.zp_area.proofs.splits.split_off.Goals as goal

block : (c : Start) → IsBlock c.args.blocks.now.largest (length c.args.blocks.now.lists.states) c.args.block.head c.args.block.order
block c = rw (← blocks_length c.args.blocks.now.lists.states) (c.requires.kept.one.blocks.block _ _ c.requires.block.starts)

pub take_out-requires-clause-on : goal.take_out-requires-clause-on
take_out-requires-clause-on c =
    let a : Blocks = set_of c.args.blocks.now in
    rw (c.requires.block.list, c.requires.block.typed) (block_on c.args.blocks.now.largest a c.args.block.head c.args.block.order c.requires.kept.one c.requires.block.starts)

-- the pageblock's pages are counted
there : (c : Start) → c.args.block.head / pageblock_pages c.args.blocks.now.largest < length c.args.blocks.now.free_in.items
there c = counted_there c.args.blocks.now.largest _ _ c.args.block.head c.args.block.order c.requires.kept.each (block c)

-- the block has left its list, and the first half is to be split off
first : (c : After-lower-order) → IsSplitting c.args.blocks.now.largest (set_of c.args.blocks.now) (record (set_of c.args.blocks.now) { rows = c.take_out.new.lists }) c.args.blocks.now.free_in.items c.args.block.head c.args.to c.args.block.order (c.lower-order.result + 1)
first c =
    let a : Blocks = set_of c.args.blocks.now in
    rw (c.take_out.ensures, c.requires.block.list, c.lower-order.ensures, c.requires.block.typed) (split_begins c.args.blocks.now.largest a _ c.args.block.head c.args.to c.args.block.order c.requires.kept c.requires.block.starts (omega arith))

first_list : (c : After-lower-order) → c.args.block.list - pageblock_types ≡ list_number c.lower-order.result c.args.kind
first_list c = omega (arith, c.requires.block.list, c.lower-order.ensures)

pub overflow_sub-list : goal.overflow_sub-list
overflow_sub-list c = omega (arith, c.requires.block.list, c.lower-order.ensures)

pub put_half-requires-clause-list : goal.put_half-requires-clause-list
put_half-requires-clause-list c =
    let before = (goal.at.put_half-requires-clause-list c).After-lower-order in
    rw (first_list before) (half_list c.lower-order.result (first before) c.args.kind)

pub put_half-requires-clause-page : goal.put_half-requires-clause-page
put_half-requires-clause-page c = half_page c.lower-order.result (first (goal.at.put_half-requires-clause-page c).After-lower-order)

pub put_half-requires-clause-loose : goal.put_half-requires-clause-loose
put_half-requires-clause-loose c = half_loose c.lower-order.result (first (goal.at.put_half-requires-clause-loose c).After-lower-order)

pub halves-init : goal.halves-init
halves-init c =
    let before = (goal.at.halves-init c).After-lower-order in
    let x = first before in
    record {
      split = rw (c.put_half.ensures, first_list before, half_kind c.lower-order.result x c.args.kind c.requires.block.typed) (split_goes c.lower-order.result x (omega arith) (there (goal.at.halves-init c).Start));
      pages = c.pages-pages.ensures.pages;
      list = first_list before;
    }

-- one half is still to be split off
half : (c : After-lower-order-in-halves) → IsSplitting c.args.blocks.now.largest (set_of c.args.blocks.now) (record (set_of c.args.blocks.now) { rows = c.halves.lists }) c.args.blocks.now.free_in.items c.args.block.head c.args.to c.args.block.order (c.lower-order-in-halves.result + 1)
half c = rw c.lower-order-in-halves.ensures c.halves.invariant.split

-- it has half of the pages
pages_now : (c : After-lower-order-in-halves) → c.halves.pages / 2 ≡ 2 ^ c.lower-order-in-halves.result
pages_now c = omega (arith, c.halves.invariant.pages, ap (λ n. 2 ^ n) (sym c.lower-order-in-halves.ensures), two c.lower-order-in-halves.result)

-- its list is that of the next order
list_now : (c : After-lower-order-in-halves) → c.halves.list - pageblock_types ≡ list_number c.lower-order-in-halves.result c.args.kind
list_now c = omega (arith, c.halves.invariant.list, c.lower-order-in-halves.ensures)

pub overflow_sub-list-in-halves : goal.overflow_sub-list-in-halves
overflow_sub-list-in-halves c = omega (arith, c.halves.invariant.list, c.lower-order-in-halves.ensures)

pub put_half-requires-in-halves-clause-pages : goal.put_half-requires-in-halves-clause-pages
put_half-requires-in-halves-clause-pages c = pages_now (goal.at.put_half-requires-in-halves-clause-pages c).After-lower-order-in-halves

pub put_half-requires-in-halves-clause-list : goal.put_half-requires-in-halves-clause-list
put_half-requires-in-halves-clause-list c =
    let before = (goal.at.put_half-requires-in-halves-clause-list c).After-lower-order-in-halves in
    rw (list_now before) (half_list c.lower-order-in-halves.result (half before) c.args.kind)

pub put_half-requires-in-halves-clause-page : goal.put_half-requires-in-halves-clause-page
put_half-requires-in-halves-clause-page c = half_page c.lower-order-in-halves.result (half (goal.at.put_half-requires-in-halves-clause-page c).After-lower-order-in-halves)

pub put_half-requires-in-halves-clause-loose : goal.put_half-requires-in-halves-clause-loose
put_half-requires-in-halves-clause-loose c = half_loose c.lower-order-in-halves.result (half (goal.at.put_half-requires-in-halves-clause-loose c).After-lower-order-in-halves)

pub halves-preserved : goal.halves-preserved
halves-preserved c =
    let before = (goal.at.halves-preserved c).After-lower-order-in-halves in
    let x = half before in
    record {
      split =
          rw (c.put_half-in-halves.ensures, list_now before, half_kind c.lower-order-in-halves.result x c.args.kind c.requires.block.typed)
          (split_goes c.lower-order-in-halves.result x (omega arith) (there (goal.at.halves-preserved c).Start));
      pages = pages_now before;
      list = list_now before;
    }

-- the loop has come down to the order that is wanted
whole : (c : After-index_mut) → IsSplitting c.args.blocks.now.largest (set_of c.args.blocks.now) (record (set_of c.args.blocks.now) { rows = c.halves.lists }) c.args.blocks.now.free_in.items c.args.block.head c.args.to c.args.block.order c.args.to
whole c = let e : c.halves.order ≡ c.args.to = omega (arith, c.halves.invariant.split.down) in rw e at c.halves.invariant.split

read : (c : After-index_mut) → IsBlock c.args.blocks.now.largest (length c.args.blocks.now.lists.states) c.args.block.head c.args.block.order → c.index_mut.result.now ≡ slice_index c.args.blocks.now.free_in.items (c.args.block.head / 2 ^ c.args.blocks.now.largest)
read c b = read_at c.args.blocks.now.largest _ _ c.args.block.head c.args.block.order _ _ c.requires.kept.each b c.requires.here c.index_mut.ensures.value

pub overflow_sub-index_mut : goal.overflow_sub-index_mut
overflow_sub-index_mut c =
    let now = (goal.at.overflow_sub-index_mut c).After-index_mut in
    omega (arith, read now (block (goal.at.overflow_sub-index_mut c).Start), (whole now).most, c.pages.ensures.pages)

pub returns-clause-kept : goal.returns-clause-kept
returns-clause-kept c =
    let now = (goal.at.returns-clause-kept c).After-index_mut in
    let a : Blocks = set_of c.args.blocks.now in
    rw (c.requires.here, read now (block (goal.at.returns-clause-kept c).Start), c.pages.ensures.pages) (split_ends c.args.blocks.now.largest a _ _ c.args.block.head c.args.to c.args.block.order (whole now)).0

pub split-requires-clause-block : goal.split-requires-clause-block
split-requires-clause-block c =
    let a : Blocks = set_of c.args.blocks.now in
    rw c.requires.told (available-from c.args.blocks.now.largest a.kinds (block_set a) c.args.block.head c.args.block.order c.requires.block.starts (rw c.requires.block.typed at c.requires.open))

pub returns-clause-told : goal.returns-clause-told
returns-clause-told c =
    let now = (goal.at.returns-clause-told c).After-index_mut in
    let a : Blocks = set_of c.args.blocks.now in
    let there : IsBlock c.args.blocks.now.largest (length (block_set a)) c.args.block.head c.args.block.order = c.requires.kept.one.blocks.block _ _ c.requires.block.starts in
    c.split.ensures ∙ ap (λ s. split_set s c.args.block.head c.args.block.order c.args.to) c.requires.told
    ∙ sym (available-split c.args.blocks.now.largest a.kinds (block_set a) c.args.block.head c.args.block.order c.args.to (omega arith) there (rw c.requires.block.typed at c.requires.open))
    ∙ ap (available_blocks c.args.blocks.now.largest a.kinds) (split_ends c.args.blocks.now.largest a _ _ c.args.block.head c.args.to c.args.block.order (whole now)).1

pub returns-clause-numbers : goal.returns-clause-numbers
returns-clause-numbers c =
    let now = (goal.at.returns-clause-numbers c).After-index_mut in
    rw (c.requires.here, read now (block (goal.at.returns-clause-numbers c).Start), c.pages.ensures.pages) refl

pub returns-clause-after : goal.returns-clause-after
returns-clause-after c =
    let now = (goal.at.returns-clause-after c).After-index_mut in
    let a : Blocks = set_of c.args.blocks.now in
    (split_ends c.args.blocks.now.largest a _ _ c.args.block.head c.args.to c.args.block.order (whole now)).2
