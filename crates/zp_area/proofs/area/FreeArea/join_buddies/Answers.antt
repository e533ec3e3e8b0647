use Rattle.std.proofs.Common.{◌/◌, ◌^◌, ◌≡◌, ◌<◌, arith, length, sym}
use Rattle.std.proofs.Math.Pow.{pow_mono}
use Rattle.zp_model.specs.Area.{kind_at}
use Rattle.zp_area.specs.KeptSets.{set_of}
use Rattle.zp_area.proofs.IsolatedPages.{sum_added}
use Rattle.zp_model.specs.Block.{IsBlock}
use Rattle.zp_area.proofs.Indexing.{indexed_anew, isolated_most, others_stand, pageblock_kept}
use Rattle.zp_area.proofs.Keeping.{counted_there, kind_found, typed_there}
use Rattle.zp_area.proofs.OnePageblock.{changed_joined}
use Rattle.zp_area.proofs.area.FreeArea.join_buddies.Goals.{After-pageblock_of-pageblock, After-index-kind}
use Rattle.zp_area.proofs.area.FreeArea.join_buddies.Goals as goal

pub join_up-requires-clause-clear : goal.join_up-requires-clause-clear
join_up-requires-clause-clear c = rw (← c.self.view_is) at c.requires.clear

block : (c : After-pageblock_of-pageblock) → IsBlock c.self.inside.blocks.largest (length c.self.inside.blocks.lists.states) c.args.at c.args.order
block c = rw (← c.self.view_is) at c.requires.block

there : (c : After-pageblock_of-pageblock) → c.pageblock_of-pageblock.result < length c.self.inside.blocks.kinds.items
there c = rw c.pageblock_of-pageblock.ensures (typed_there c.self.inside.blocks.largest (set_of c.self.inside.blocks) c.args.at c.args.order c.self.invariant.kept.one (block c))

kind : (c : After-index-kind) → c.index-kind.result.now ≡ kind_at c.self.inside.blocks.largest c.self.inside.blocks.kinds.items c.args.at
kind c = kind_found c.self.inside.blocks.largest (set_of c.self.inside.blocks) c.args.at c.args.order _ _ c.self.invariant.kept.one (block (goal.at.After-index-kind c).After-pageblock_of-pageblock) c.pageblock_of-pageblock.ensures c.index-kind.ensures

pub index-kind-requires : goal.index-kind-requires
index-kind-requires c = omega (arith, there (goal.at.index-kind-requires c).After-pageblock_of-pageblock)

pub join_up-requires-clause-typed : goal.join_up-requires-clause-typed
join_up-requires-clause-typed c = kind (goal.at.join_up-requires-clause-typed c).After-index-kind

pub count_isolated-requires : goal.count_isolated-requires
count_isolated-requires c =
    let b = block (goal.at.count_isolated-requires c).After-pageblock_of-pageblock in
    omega (arith, c.self.invariant.apart, isolated_most c.self.inside.blocks.largest (set_of c.self.inside.blocks) _ c.self.invariant.kept, pow_mono {i = c.args.order} {j = 10} (omega (arith, b.order)))

pub changed-requires-clause-pageblocks : goal.changed-requires-clause-pageblocks
changed-requires-clause-pageblocks c = rw (c.join_up.ensures.stays.0, c.join_up.ensures.stays.1) (λ b lt. pageblock_kept c.self.inside.blocks.largest b _ _ _ c.join_up.ensures.kept c.join_up.ensures.told lt)

pub changed-requires-clause-inside : goal.changed-requires-clause-inside
changed-requires-clause-inside c = rw c.join_up.ensures.stays.1 (there (goal.at.changed-requires-clause-inside c).After-pageblock_of-pageblock)

pub changed-requires-clause-others : goal.changed-requires-clause-others
changed-requires-clause-others c =
    rw (c.join_up.ensures.stays.0, c.join_up.ensures.stays.1) (others_stand c.self.inside.blocks.largest c.pageblock_of-pageblock.result _ _ _ _ _ _ _ _ _ _ _ c.self.invariant c.join_up.ensures.kept c.join_up.ensures.told
    (changed_joined c.join_up.ensures.after.0 c.self.inside.blocks.largest c.pageblock_of-pageblock.result (set_of c.self.inside.blocks) c.args.at c.args.order _ (sym c.pageblock_of-pageblock.ensures) c.join_up.ensures.after.1))

pub invariant_of-self : goal.invariant_of-self
invariant_of-self c =
    let before = (goal.at.invariant_of-self c).After-pageblock_of-pageblock in
    let numbered = counted_there c.self.inside.blocks.largest _ _ c.args.at c.args.order c.self.invariant.kept.each (block before) in
    rw (c.join_up.ensures.stays.0, c.join_up.ensures.stays.1) (indexed_anew c.self.inside.blocks.largest _ _ _ _ _ _ _ c.join_up.ensures.kept c.join_up.ensures.told
    (rw (c.count_isolated.ensures, c.self.invariant.apart, c.join_up.ensures.numbers, c.pageblock_of-pageblock.ensures)
    (sum_added c.self.inside.blocks.kinds.items c.self.inside.blocks.free_in.items (c.args.at / 2 ^ c.self.inside.blocks.largest) (2 ^ c.args.order) c.index-kind.result.now (kind (goal.at.invariant_of-self c).After-index-kind)
    (typed_there c.self.inside.blocks.largest (set_of c.self.inside.blocks) c.args.at c.args.order c.self.invariant.kept.one (block before)) numbered))
    (rw (c.join_up.ensures.stays.0, c.join_up.ensures.stays.1) at c.changed.ensures))
