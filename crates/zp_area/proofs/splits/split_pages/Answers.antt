use Rattle.std.proofs.Common.{ℕ, ◌≡◌, ◌<◌, ◌+◌, ◌-◌, ◌/◌, length, refl, sym, ◌∙◌, ap, slice_index, arith}
use Rattle.zp_model.specs.Block.{IsBlock}
use Rattle.zp_model.specs.Area.{pageblock_pages}
use Rattle.zp_area.specs.Available.{choosable}
use Rattle.zp_area.specs.Blocks.{Blocks, added, removed}
use Rattle.zp_area.specs.Chains.{halves_added, pages_split_off}
use Rattle.zp_area.specs.KeptSets.{set_of}
use Rattle.zp_area.specs.declared.kept_blocks.KeptBlocks.{KeptBlocks}
use Rattle.zp_area.proofs.Adding.{coming_loose}
use Rattle.zp_area.proofs.Halves.{halves_rows}
use Rattle.zp_area.proofs.Keeping.{blocks_length, counted_there, read_at}
use Rattle.zp_area.proofs.Splitting.{block_on}
use Rattle.zp_area.proofs.SplitPages.{kept_pages, part_below, parting_begins, parting_ends, parting_goes, parting_starts}
use Rattle.zp_area.proofs.splits.split_pages.Goals.{After-index_mut, After-push_front_noted, After-put_halves-list, Start}
use Rattle.zp_area.proofs.splits.split_pages.Goals as goal

block : (c : Start) → IsBlock c.args.blocks.now.largest (length c.args.blocks.now.lists.states) c.args.block.head c.args.block.order
block c = rw (← blocks_length c.args.blocks.now.lists.states) (c.requires.kept.one.blocks.block _ _ c.requires.block.starts)

-- the pageblock's pages are counted
there : (c : Start) → c.args.block.head / pageblock_pages c.args.blocks.now.largest < length c.args.blocks.now.free_in.items
there c = counted_there c.args.blocks.now.largest _ _ c.args.block.head c.args.block.order c.requires.kept.each (block c)

pub take_out-requires-clause-on : goal.take_out-requires-clause-on
take_out-requires-clause-on c =
    let a : Blocks = set_of c.args.blocks.now in
    rw (c.requires.block.list, c.requires.block.typed) (block_on c.args.blocks.now.largest a c.args.block.head c.args.block.order c.requires.kept.one c.requires.block.starts)

pub parts-init : goal.parts-init
parts-init c =
    let a : Blocks = set_of c.args.blocks.now in
    let gone : record (set_of c.args.blocks.now) { rows = c.take_out.new.lists } ≡ removed c.args.blocks.now.largest (set_of c.args.blocks.now) c.args.block.head c.args.block.order =
    rw (c.take_out.ensures, c.requires.block.list, c.requires.block.typed) refl in
    record {
      parting =
          rw gone (parting_begins c.args.blocks.now.largest a c.args.blocks.now.tree c.args.kind c.args.block.head c.args.block.order c.args.pages
          c.requires.kept.one c.requires.block.starts c.requires.block.typed c.requires.less c.requires.told);
      most = omega arith;
      list = c.requires.block.list;
      largest = refl;
      kinds = refl;
      numbers = refl;
    }

pub split-requires-clause-block : goal.split-requires-clause-block
split-requires-clause-block c = parting_starts c.parts.invariant.parting c.requires.open

pub split-requires-clause-down : goal.split-requires-clause-down
split-requires-clause-down c = part_below c.parts.invariant.parting c.order_within-to.result c.order_within-to.ensures.within

pub put_halves-list-requires-clause-clear : goal.put_halves-list-requires-clause-clear
put_halves-list-requires-clause-clear c = rw c.parts.invariant.largest c.parts.invariant.parting.coming.clear

pub put_halves-list-requires-clause-down : goal.put_halves-list-requires-clause-down
put_halves-list-requires-clause-down c = part_below c.parts.invariant.parting c.order_within-to.result c.order_within-to.ensures.within

-- the halves that are put are added
put : (c : After-put_halves-list) → record (set_of c.args.blocks.now) { rows = c.put_halves-list.new.blocks.lists } ≡
    halves_added c.args.blocks.now.largest (record (set_of c.args.blocks.now) { rows = c.parts.blocks.lists }) c.parts.at (c.order_within-to.result + 1) (c.parts.order - (c.order_within-to.result + 1))
put c =
    let b : Blocks = record (set_of c.args.blocks.now) { rows = c.parts.blocks.lists } in
    let d : ℕ = c.parts.order - (c.order_within-to.result + 1) in
    let rows = rw (c.parts.invariant.largest, c.parts.invariant.kinds) at (ap (λ (q : KeptBlocks). q.lists) c.put_halves-list.ensures.after) in
    rw rows (sym (halves_rows d c.args.blocks.now.largest b c.parts.at (c.order_within-to.result + 1)))

pub parts-preserved : goal.parts-preserved
parts-preserved c =
    let i = c.parts.invariant in
    let after = c.put_halves-list.ensures.after in
    let e = put (goal.at.parts-preserved c).After-put_halves-list in
    let tree = ap (λ (q : KeptBlocks). q.tree) after ∙ c.split.ensures in
    record {
      parting = rw (e, tree, c.at-at.ensures, c.number.ensures.same, c.pages-part.ensures.pages) (parting_goes i.parting c.order_within-to.result c.requires.open c.order_within-to.ensures.within c.order_within-to.ensures.greatest);
      most = omega (arith, i.most);
      list = c.put_halves-list.ensures.list;
      largest = ap (λ (q : KeptBlocks). q.largest) after ∙ i.largest;
      kinds = ap (λ (q : KeptBlocks). q.kinds) after ∙ i.kinds;
      numbers = ap (λ (q : KeptBlocks). q.free_in) after ∙ i.numbers;
    }

pub push_front_noted-requires-clause-loose : goal.push_front_noted-requires-clause-loose
push_front_noted-requires-clause-loose c = coming_loose c.parts.invariant.parting.coming

pub index_mut-requires : goal.index_mut-requires
index_mut-requires c = let lt = there (goal.at.index_mut-requires c).Start in rw c.parts.invariant.numbers (omega (arith, c.requires.here, lt))

read : (c : After-index_mut) → IsBlock c.args.blocks.now.largest (length c.args.blocks.now.lists.states) c.args.block.head c.args.block.order → c.index_mut.result.now ≡ slice_index c.args.blocks.now.free_in.items (c.args.block.head / pageblock_pages c.args.blocks.now.largest)
read c b = read_at c.args.blocks.now.largest _ _ c.args.block.head c.args.block.order _ _ c.requires.kept.each b c.requires.here (rw c.parts.invariant.numbers at c.index_mut.ensures.value)

pub overflow_sub-index_mut : goal.overflow_sub-index_mut
overflow_sub-index_mut c =
    let before = (goal.at.overflow_sub-index_mut c).Start in
    omega (arith, read (goal.at.overflow_sub-index_mut c).After-index_mut (block before), (kept_pages c.args.blocks.now.largest _ _ c.args.block.head c.args.block.order c.args.pages c.requires.kept c.requires.block.starts (omega (arith, c.requires.less)) (there before)).0)

-- the last block comes, and is what is left of the one that was split
left : (c : After-push_front_noted) → (record (set_of c.args.blocks.now) { rows = c.push_front_noted.new.self } ≡ pages_split_off c.args.blocks.now.largest (set_of c.args.blocks.now) c.args.block.head c.args.block.order c.args.pages)
    × (c.parts.blocks.tree ≡ choosable c.args.blocks.now.largest (record (set_of c.args.blocks.now) { rows = c.push_front_noted.new.self }))
left c =
    let i = c.parts.invariant in
    let b : Blocks = record (set_of c.args.blocks.now) { rows = c.parts.blocks.lists } in
    let none : c.parts.left ≡ 0 = omega (arith, c.parts-test.false) in
    let pushed : record (set_of c.args.blocks.now) { rows = c.push_front_noted.new.self } ≡ added c.args.blocks.now.largest (record (set_of c.args.blocks.now) { rows = c.parts.blocks.lists }) c.parts.at c.parts.order =
    rw (c.push_front_noted.ensures.after, i.list, i.parting.typed) refl in
    let ends = parting_ends c.args.blocks.now.largest (set_of c.args.blocks.now) b c.parts.blocks.tree c.args.kind c.args.block.head c.args.block.order c.args.pages c.parts.at c.parts.order (rw none at i.parting) in
    (pushed ∙ ends.0, ends.1 ∙ ap (choosable c.args.blocks.now.largest) (sym pushed))

pub returns-clause-after : goal.returns-clause-after
returns-clause-after c = (left (goal.at.returns-clause-after c).After-push_front_noted).0

pub returns-clause-told : goal.returns-clause-told
returns-clause-told c = (left (goal.at.returns-clause-told c).After-push_front_noted).1

pub returns-clause-numbers : goal.returns-clause-numbers
returns-clause-numbers c =
    let before = (goal.at.returns-clause-numbers c).Start in
    rw (c.parts.invariant.numbers, c.requires.here, read (goal.at.returns-clause-numbers c).After-index_mut (block before)) refl

pub returns-clause-kept : goal.returns-clause-kept
returns-clause-kept c =
    let before = (goal.at.returns-clause-kept c).Start in
    let e = (left (goal.at.returns-clause-kept c).After-push_front_noted).0 in
    rw (e, c.parts.invariant.numbers, c.requires.here, read (goal.at.returns-clause-kept c).After-index_mut (block before))
    (kept_pages c.args.blocks.now.largest _ _ c.args.block.head c.args.block.order c.args.pages c.requires.kept c.requires.block.starts (omega (arith, c.requires.less)) (there before)).1
