use Rattle.std.proofs.Common.{◌≡◌, ◌<◌, ◌+◌, ◌-◌, ◌/◌, ◌^◌, length, refl, sym, ◌∙◌, ap, slice_index, arith}
use Rattle.zp_model.specs.Block.{IsBlock, head}
use Rattle.zp_model.specs.Area.{available_blocks, kind_at, list_number, pageblock_pages}
use Rattle.zp_model.specs.PageblockType.{is_isolate, pageblock_types}
use Rattle.zp_tree.specs.Blocks.{split_towards_set}
use Rattle.zp_tree.proofs.BuddyPlaces.{head_around}
use Rattle.zp_area.specs.Blocks.{Blocks, block_set}
use Rattle.zp_area.specs.KeptSets.{set_of}
use Rattle.zp_area.proofs.AvailableBlocks.{available-from}
use Rattle.zp_area.proofs.Halving.{IsHalving, available-towards, beside_kind, beside_list, beside_loose, beside_page, halving_begins, halving_ends, halving_goes, head_kind}
use Rattle.zp_area.proofs.Keeping.{blocks_length, counted_there, read_at}
use Rattle.zp_area.proofs.Splitting.{block_on}
use Rattle.zp_area.proofs.splits.split_towards.Goals.{After-half_beside, After-index_mut, Start}
use Rattle.zp_area.proofs.splits.split_towards.Goals as goal

block : (c : Start) → IsBlock c.args.blocks.now.largest (length c.args.blocks.now.lists.states) (head c.args.at c.args.from) c.args.from
block c = rw (← blocks_length c.args.blocks.now.lists.states) (c.requires.kept.one.blocks.block _ _ c.requires.block)

-- the block's type is the page's, and its pageblock too
typed : (c : Start) → c.args.kind ≡ kind_at c.args.blocks.now.largest c.args.blocks.now.kinds.items (head c.args.at c.args.from)
typed c = c.requires.typed ∙ sym (head_kind c.args.blocks.now.largest c.args.blocks.now.kinds.items c.args.at c.args.from (block c).order)

place : (c : Start) → head c.args.at c.args.from / pageblock_pages c.args.blocks.now.largest ≡ c.args.at / pageblock_pages c.args.blocks.now.largest
place c = head_around c.args.at c.args.from c.args.blocks.now.largest (block c).order

-- the pageblock's pages are counted
there : (c : Start) → c.args.at / pageblock_pages c.args.blocks.now.largest < length c.args.blocks.now.free_in.items
there c = rw (← place c) (counted_there c.args.blocks.now.largest _ _ (head c.args.at c.args.from) c.args.from c.requires.kept.each (block c))

pub take_out-requires-clause-on : goal.take_out-requires-clause-on
take_out-requires-clause-on c =
    let a : Blocks = set_of c.args.blocks.now in
    rw (c.list_of-list.ensures.number, c.head.ensures, typed (goal.at.take_out-requires-clause-on c).Start)
    (block_on c.args.blocks.now.largest a (head c.args.at c.args.from) c.args.from c.requires.kept.one c.requires.block)

pub split_towards-requires-clause-block : goal.split_towards-requires-clause-block
split_towards-requires-clause-block c =
    let a : Blocks = set_of c.args.blocks.now in
    rw c.requires.told (available-from c.args.blocks.now.largest a.kinds (block_set a) (head c.args.at c.args.from) c.args.from c.requires.block
    (ap is_isolate (sym (typed (goal.at.split_towards-requires-clause-block c).Start)) ∙ c.requires.open))

pub halves-init : goal.halves-init
halves-init c =
    let a : Blocks = set_of c.args.blocks.now in
    record {
      halving =
          rw (c.take_out.ensures, c.list_of-list.ensures.number, c.head.ensures, typed (goal.at.halves-init c).Start)
          (halving_begins c.args.blocks.now.largest a _ c.args.at c.args.from c.args.to c.requires.kept c.requires.block (omega arith));
      list = c.list_of-list.ensures.number;
    }

-- one half is still to come
half : (c : After-half_beside) → IsHalving c.args.blocks.now.largest (set_of c.args.blocks.now) (record (set_of c.args.blocks.now) { rows = c.halves.lists }) c.args.blocks.now.free_in.items c.args.at c.args.from c.args.to (c.lower-order.result + 1)
half c = rw c.lower-order.ensures c.halves.invariant.halving

-- its list is that of the next order
list_now : (c : After-half_beside) → c.halves.list - pageblock_types ≡ list_number c.lower-order.result c.args.kind
list_now c = omega (arith, c.halves.invariant.list, c.lower-order.ensures)

pub overflow_sub-list : goal.overflow_sub-list
overflow_sub-list c = omega (arith, c.halves.invariant.list, c.lower-order.ensures)

pub push_front_noted-requires-clause-list : goal.push_front_noted-requires-clause-list
push_front_noted-requires-clause-list c =
    let before = (goal.at.push_front_noted-requires-clause-list c).After-half_beside in
    rw (list_now before) (beside_list c.lower-order.result (half before) c.args.kind)

pub push_front_noted-requires-clause-page : goal.push_front_noted-requires-clause-page
push_front_noted-requires-clause-page c =
    rw c.half_beside.ensures (beside_page c.lower-order.result (half (goal.at.push_front_noted-requires-clause-page c).After-half_beside))

pub push_front_noted-requires-clause-loose : goal.push_front_noted-requires-clause-loose
push_front_noted-requires-clause-loose c =
    rw c.half_beside.ensures (beside_loose c.lower-order.result (half (goal.at.push_front_noted-requires-clause-loose c).After-half_beside))

pub halves-preserved : goal.halves-preserved
halves-preserved c =
    let before = (goal.at.halves-preserved c).After-half_beside in
    let x = half before in
    record {
      halving =
          rw (c.push_front_noted.ensures.after, list_now before, c.half_beside.ensures, beside_kind c.lower-order.result x c.args.kind c.requires.typed)
          (halving_goes c.lower-order.result x (omega arith) (there (goal.at.halves-preserved c).Start));
      list = list_now before;
    }

pub index_mut-requires : goal.index_mut-requires
index_mut-requires c = omega (arith, c.requires.here, there (goal.at.index_mut-requires c).Start)

-- the loop has come down to the order that is wanted
whole : (c : After-index_mut) → IsHalving c.args.blocks.now.largest (set_of c.args.blocks.now) (record (set_of c.args.blocks.now) { rows = c.halves.lists }) c.args.blocks.now.free_in.items c.args.at c.args.from c.args.to c.args.to
whole c = let e : c.halves.order ≡ c.args.to = omega (arith, c.halves.invariant.halving.towards.down) in rw e at c.halves.invariant.halving

read : (c : After-index_mut) → c.index_mut.result.now ≡ slice_index c.args.blocks.now.free_in.items (c.args.at / pageblock_pages c.args.blocks.now.largest)
read c =
    let start = (goal.at.After-index_mut c).Start in
    read_at c.args.blocks.now.largest _ _ (head c.args.at c.args.from) c.args.from _ _ c.requires.kept.each (block start) (c.requires.here ∙ sym (place start)) c.index_mut.ensures.value
    ∙ ap (slice_index c.args.blocks.now.free_in.items) (place start)

pub overflow_sub-index_mut : goal.overflow_sub-index_mut
overflow_sub-index_mut c =
    let now = (goal.at.overflow_sub-index_mut c).After-index_mut in
    omega (arith, read now, (whole now).most, c.pages.ensures.pages)

pub returns-clause-kept : goal.returns-clause-kept
returns-clause-kept c =
    let now = (goal.at.returns-clause-kept c).After-index_mut in
    let a : Blocks = set_of c.args.blocks.now in
    rw (c.requires.here, read now, c.pages.ensures.pages) (halving_ends c.args.blocks.now.largest a _ _ c.args.at c.args.from c.args.to (whole now)).0

pub returns-clause-told : goal.returns-clause-told
returns-clause-told c =
    let now = (goal.at.returns-clause-told c).After-index_mut in
    let a : Blocks = set_of c.args.blocks.now in
    c.split_towards.ensures ∙ ap (λ s. split_towards_set s c.args.at c.args.from c.args.to) c.requires.told
    ∙ sym (available-towards c.args.blocks.now.largest a.kinds (block_set a) c.args.at c.args.from c.args.to (omega arith) (block (goal.at.returns-clause-told c).Start).order (rw c.requires.typed at c.requires.open))
    ∙ ap (available_blocks c.args.blocks.now.largest a.kinds) (halving_ends c.args.blocks.now.largest a _ _ c.args.at c.args.from c.args.to (whole now)).1

pub returns-clause-numbers : goal.returns-clause-numbers
returns-clause-numbers c =
    let now = (goal.at.returns-clause-numbers c).After-index_mut in
    rw (c.requires.here, read now, c.pages.ensures.pages) refl

pub returns-clause-after : goal.returns-clause-after
returns-clause-after c =
    let now = (goal.at.returns-clause-after c).After-index_mut in
    let a : Blocks = set_of c.args.blocks.now in
    (halving_ends c.args.blocks.now.largest a _ _ c.args.at c.args.from c.args.to (whole now)).2
