use Rattle.std.proofs.Common.{ℕ, ◌+◌, ◌^◌, ◌≡◌, ◌<◌, ◌/◌, refl, ◌∙◌, ap, cond, false, length, List, set, slice_index, arith}
use Rattle.std.proofs.Math.Pow.{pow_mono}
use Rattle.zp_model.specs.PageblockType.{is_isolate}
use Rattle.zp_model.specs.declared.pageblock_type.PageblockType.{PageblockType}
use Rattle.zp_model.specs.Area.{available_blocks, is_isolated, kind_at, list_number, pageblock_pages}
use Rattle.zp_model.specs.Block.{IsBuddy}
use Rattle.zp_model.specs.Rows.{IsOn}
use Rattle.zp_tree.specs.Blocks.{joined_set}
use Rattle.zp_area.specs.OneSet.{IsKept}
use Rattle.zp_area.proofs.AvailableBlocks.{available-length, available_apart, available_buddies, told_joined}
use Rattle.zp_area.proofs.OneBlock.{head_below}
use Rattle.zp_area.specs.Blocks.{Blocks, added, block_set}
use Rattle.zp_area.specs.Chains.{IsJoinable, IsJoinedUp}
use Rattle.zp_area.specs.KeptSets.{set_of}
use Rattle.zp_area.proofs.Keeping.{block_of_more, counted_there, read_at}
use Rattle.zp_area.proofs.Adding.{IsComing, coming_apart, coming_loose, kept_added}
use Rattle.zp_area.proofs.Splitting.{block_on}
use Rattle.zp_area.proofs.Growing.{IsGrowing, buddy_block, buddy_kind, buddy_starts, buddy_unique, grow_begins, grow_ends, grow_goes, grown_block, grown_coming, grown_kind}
use Rattle.zp_area.proofs.joins.join_up.Goals.{After-index_mut, After-put_in, Start}
use Rattle.zp_area.proofs.joins.join_up.Goals as goal

coming : (c : After-index_mut) → IsComing c.args.blocks.now.largest (set_of c.args.blocks.now) c.args.at c.args.order
coming c = record { one = c.requires.kept.one; block = c.requires.block; clear = c.requires.clear }

read : (c : After-index_mut) → c.index_mut.result.now ≡ slice_index c.args.blocks.now.free_in.items (c.args.at / 2 ^ c.args.blocks.now.largest)
read c = read_at c.args.blocks.now.largest _ _ c.args.at c.args.order _ _ c.requires.kept.each c.requires.block c.requires.here c.index_mut.ensures.value

there : (c : Start) → c.args.at / pageblock_pages c.args.blocks.now.largest < length c.args.blocks.now.free_in.items
there c = counted_there c.args.blocks.now.largest _ _ c.args.at c.args.order c.requires.kept.each c.requires.block

pub overflow_add-index_mut : goal.overflow_add-index_mut
overflow_add-index_mut c =
    let now = (goal.at.overflow_add-index_mut c).After-index_mut in
    omega (arith, read now, c.pages.ensures.pages, (kept_added (coming now) _ c.requires.kept).fits, pow_mono {i = c.args.blocks.now.largest} {j = 10} (omega arith))

begun : (c : Start) → IsGrowing c.args.blocks.now.largest (set_of c.args.blocks.now) (set_of c.args.blocks.now) c.args.blocks.now.free_in.items c.args.at c.args.order c.args.at c.args.order
begun c = grow_begins c.args.blocks.now.largest (set_of c.args.blocks.now) _ c.args.at c.args.order c.requires.kept c.requires.block c.requires.clear

-- the free buddy stands on its list
module _ {m : ℕ} {a b : Blocks} {free_in : List ℕ} {h k g j : ℕ} (x : IsGrowing m a b free_in h k g j) {c d : ℕ} (y : IsJoinable m b g j c d) (t : PageblockType) (typed : t ≡ kind_at m a.kinds h) where
  listed : (e f : ℕ) → IsBuddy g j e f → (e < length b.rows.states) × IsOn b.rows.lists (list_number j t) e
  listed e f z =
      let same : c ≡ e = buddy_unique g j c d e f y.buddy z in
      let here : (c < length b.rows.states) × IsOn b.rows.lists (list_number j t) c =
      (head_below m _ c j (buddy_block x y), rw (buddy_kind x y t typed) (block_on m b c j x.kept.one (buddy_starts x y))) in
      rw same at here

  here : (e f : ℕ) → IsBuddy g j e f → IsJoinable m b g j e f
  here e f z = let same : c ≡ e = buddy_unique g j c d e f y.buddy z in record { order = y.order; buddy = z; free = rw same at y.free }

pub take_buddy-head-requires-clause-listed : goal.take_buddy-head-requires-clause-listed
take_buddy-head-requires-clause-listed c = rw c.list_of.ensures.number (listed (begun (goal.at.take_buddy-head-requires-clause-listed c).Start) c.requires.joined.2 c.args.kind c.requires.typed)

pub joins-init : goal.joins-init
joins-init c =
    let now = (goal.at.joins-init c).Start in
    let w = here (begun now) c.requires.joined.2 c.args.kind c.requires.typed _ _ c.take_buddy-head.ensures.1 in
    record {
      grown = rw (c.take_buddy-head.ensures.2, c.list_of.ensures.number, c.higher-joined.ensures, buddy_kind (begun now) w c.args.kind c.requires.typed) (grow_goes (begun now) w (there now));
      list = c.list_of-list.ensures.number;
    }

pub take_buddy-head-requires-in-joins-clause-listed : goal.take_buddy-head-requires-in-joins-clause-listed
take_buddy-head-requires-in-joins-clause-listed c =
    let y = c.has_free_buddy.ensures.some c.joins-test.true in
    rw c.joins.invariant.list (listed c.joins.invariant.grown (record { order = y.2; buddy = y.3; free = y.4 }) c.args.kind c.requires.typed)

pub joins-preserved : goal.joins-preserved
joins-preserved c =
    let now = (goal.at.joins-preserved c).Start in
    let y = c.has_free_buddy.ensures.some c.joins-test.true in
    let w = here c.joins.invariant.grown (record { order = y.2; buddy = y.3; free = y.4 }) c.args.kind c.requires.typed _ _ c.take_buddy-head-in-joins.ensures.1 in
    record {
      grown = rw (c.take_buddy-head-in-joins.ensures.2, c.joins.invariant.list, c.higher-joined-in-joins.ensures, buddy_kind c.joins.invariant.grown w c.args.kind c.requires.typed) (grow_goes c.joins.invariant.grown w (there now));
      list = omega (arith, c.joins.invariant.list, c.higher-joined-in-joins.ensures);
    }

-- the block's pageblock is not isolated, where its type is not
shown : (c : Start) → is_isolate c.args.kind ≡ false → is_isolated c.args.blocks.now.largest c.args.blocks.now.kinds.items c.args.at ≡ false
shown c e = rw (← c.requires.typed) e

pub tell_joined-requires-clause-block : goal.tell_joined-requires-clause-block
tell_joined-requires-clause-block c = λ e.
    let a : Blocks = set_of c.args.blocks.now in
    let b = grown_block c.joins.invariant.grown in
    rw (c.requires.told, available-length c.args.blocks.now.largest a.kinds (block_set a)) (block_of_more (omega (arith, b.order)) b)

pub tell_joined-requires-clause-apart : goal.tell_joined-requires-clause-apart
tell_joined-requires-clause-apart c = λ e.
    let a : Blocks = set_of c.args.blocks.now in
    rw c.requires.told (available_apart c.args.blocks.now.largest a.kinds (block_set a) c.args.at c.args.order (coming_apart (coming (goal.at.tell_joined-requires-clause-apart c).After-index_mut)))

pub tell_joined-requires-clause-buddies : goal.tell_joined-requires-clause-buddies
tell_joined-requires-clause-buddies c = λ e.
    let a : Blocks = set_of c.args.blocks.now in
    rw c.requires.told (available_buddies c.args.blocks.now.largest a.kinds (block_set a) c.args.at c.args.order c.joins.joined (grown_block c.joins.invariant.grown).order (shown (goal.at.tell_joined-requires-clause-buddies c).Start e) c.joins.invariant.grown.buddies)

pub put_in-requires-clause-loose : goal.put_in-requires-clause-loose
put_in-requires-clause-loose c = coming_loose (grown_coming c.joins.invariant.grown)

-- the loop has ended, as there is no free buddy more
ended : (c : After-put_in) → IsKept c.args.blocks.now.largest (added c.args.blocks.now.largest (record (set_of c.args.blocks.now) { rows = c.joins.lists }) c.joins.head c.joins.joined) (set c.args.blocks.now.free_in.items (c.args.at / pageblock_pages c.args.blocks.now.largest) (slice_index c.args.blocks.now.free_in.items (c.args.at / pageblock_pages c.args.blocks.now.largest) + 2 ^ c.args.order)) ×
    (joined_set (block_set (set_of c.args.blocks.now)) c.args.at c.args.order c.joins.joined ≡ block_set (added c.args.blocks.now.largest (record (set_of c.args.blocks.now) { rows = c.joins.lists }) c.joins.head c.joins.joined)) ×
    ((e : ℕ) × IsJoinedUp e c.args.blocks.now.largest (set_of c.args.blocks.now) c.args.at c.args.order (added c.args.blocks.now.largest (record (set_of c.args.blocks.now) { rows = c.joins.lists }) c.joins.head c.joins.joined))
ended c = grow_ends c.joins.invariant.grown (λ e f y. c.has_free_buddy.ensures.none c.joins-test.false y.order e f y.buddy y.free) (counted_there c.args.blocks.now.largest _ _ c.args.at c.args.order c.requires.kept.each c.requires.block)

pub returns-clause-kept : goal.returns-clause-kept
returns-clause-kept c =
    let k = grown_kind c.joins.invariant.grown c.args.kind c.requires.typed in
    rw (c.put_in.ensures, k, c.requires.here, read (goal.at.returns-clause-kept c).After-index_mut, c.pages.ensures.pages) (ended (goal.at.returns-clause-kept c).After-put_in).0

pub returns-clause-told : goal.returns-clause-told
returns-clause-told c =
    let a : Blocks = set_of c.args.blocks.now in
    rw c.put_in.ensures
    (c.tell_joined.ensures ∙ ap (λ s. cond (is_isolate c.args.kind) s (joined_set s c.args.at c.args.order c.joins.joined)) c.requires.told
    ∙ told_joined c.args.blocks.now.largest a.kinds (block_set a) c.args.at c.args.order c.joins.joined c.args.kind c.requires.typed (grown_block c.joins.invariant.grown).order c.joins.invariant.grown.up c.joins.invariant.grown.buddies
    ∙ ap (available_blocks c.args.blocks.now.largest a.kinds) (ended (goal.at.returns-clause-told c).After-put_in).1)

pub returns-clause-numbers : goal.returns-clause-numbers
returns-clause-numbers c = rw (c.requires.here, read (goal.at.returns-clause-numbers c).After-index_mut, c.pages.ensures.pages) refl

pub returns-clause-after : goal.returns-clause-after
returns-clause-after c =
    let k = grown_kind c.joins.invariant.grown c.args.kind c.requires.typed in
    rw (c.put_in.ensures, k) (ended (goal.at.returns-clause-after c).After-put_in).2
