use Rattle.std.proofs.Common.{◌<◌, ◌≡◌, ◌∙◌, ap, false, slice_index_or, length, sym, arith}
use Rattle.zp_model.specs.Block.{head}
use Rattle.zp_model.specs.BlockSet.{Starts}
use Rattle.zp_area.specs.Blocks.{Blocks, block_set}
use Rattle.zp_model.specs.declared.pageblock_type.PageblockType.TheVariants.{Movable}
use Rattle.zp_model.specs.PageblockType.{is_isolate, pageblock_type}
use Rattle.zp_model.specs.Area.{kind_at}
use Rattle.zp_laws.proofs.Choosing.{asked-not_isolate}
use Rattle.zp_area.specs.Available.{isolated_sum}
use Rattle.zp_area.specs.KeptSets.{set_of}
use Rattle.zp_area.proofs.Halving.{changed_towards, around_there}
use Rattle.zp_area.proofs.IsolatedPages.{sum_open}
use Rattle.zp_area.proofs.Indexing.{indexed_anew, others_stand, pageblock_kept}
use Rattle.zp_area.proofs.area.FreeArea.halve_down.Goals.{After-pageblock_of-pageblock}
use Rattle.zp_area.proofs.area.FreeArea.halve_down.Goals as goal

starts : (c : After-pageblock_of-pageblock) → Starts (block_set (set_of c.self.inside.blocks)) (head c.args.at c.args.from) c.args.from
starts c = rw (← c.self.view_is) at c.requires.block

there : (c : After-pageblock_of-pageblock) → c.pageblock_of-pageblock.result < length c.self.inside.blocks.kinds.items
there c = rw c.pageblock_of-pageblock.ensures (around_there c.self.inside.blocks.largest (set_of c.self.inside.blocks) c.args.at c.args.from c.self.invariant.kept.one (starts c))

pub changed-requires-clause-pageblocks : goal.changed-requires-clause-pageblocks
changed-requires-clause-pageblocks c = rw (c.split_towards.ensures.stays.0, c.split_towards.ensures.stays.1) (λ b lt. pageblock_kept c.self.inside.blocks.largest b _ _ _ c.split_towards.ensures.kept c.split_towards.ensures.told lt)

pub changed-requires-clause-inside : goal.changed-requires-clause-inside
changed-requires-clause-inside c = rw c.split_towards.ensures.stays.1 (there (goal.at.changed-requires-clause-inside c).After-pageblock_of-pageblock)

pub changed-requires-clause-others : goal.changed-requires-clause-others
changed-requires-clause-others c =
    let a : Blocks = set_of c.self.inside.blocks in
    rw (c.split_towards.ensures.stays.0, c.split_towards.ensures.stays.1) (others_stand c.self.inside.blocks.largest c.pageblock_of-pageblock.result _ _ _ _ _ _ _ _ _ _ _ c.self.invariant c.split_towards.ensures.kept c.split_towards.ensures.told
    (rw c.split_towards.ensures.after (changed_towards c.self.inside.blocks.largest c.pageblock_of-pageblock.result a c.args.at c.args.from c.args.to c.self.invariant.kept.one (starts (goal.at.changed-requires-clause-others c).After-pageblock_of-pageblock) (omega arith) (sym c.pageblock_of-pageblock.ensures))))

-- the pageblock is not isolated, as it has a migrate type
kind : (c : After-pageblock_of-pageblock) → pageblock_type c.args.kind ≡ kind_at c.self.inside.blocks.largest c.self.inside.blocks.kinds.items c.args.at
kind c = rw (← c.self.view_is) at c.requires.typed

pub split_towards-requires-clause-block : goal.split_towards-requires-clause-block
split_towards-requires-clause-block c = starts (goal.at.split_towards-requires-clause-block c).After-pageblock_of-pageblock

pub split_towards-requires-clause-typed : goal.split_towards-requires-clause-typed
split_towards-requires-clause-typed c = c.pageblock_type.ensures ∙ kind (goal.at.split_towards-requires-clause-typed c).After-pageblock_of-pageblock

pub split_towards-requires-clause-open : goal.split_towards-requires-clause-open
split_towards-requires-clause-open c = ap is_isolate c.pageblock_type.ensures ∙ asked-not_isolate c.args.kind

pub invariant_of-self : goal.invariant_of-self
invariant_of-self c =
    let before = (goal.at.invariant_of-self c).After-pageblock_of-pageblock in
    let shown : is_isolate (kind_at c.self.inside.blocks.largest c.self.inside.blocks.kinds.items c.args.at) ≡ false = ap is_isolate (sym (kind before)) ∙ asked-not_isolate c.args.kind in
    let same = ap (λ q. is_isolate (slice_index_or c.self.inside.blocks.kinds.items q Movable)) c.pageblock_of-pageblock.ensures ∙ shown in
    rw (c.split_towards.ensures.stays.0, c.split_towards.ensures.stays.1) (indexed_anew c.self.inside.blocks.largest _ _ _ _ _ _ _ c.split_towards.ensures.kept c.split_towards.ensures.told
    (c.self.invariant.apart ∙ sym (ap (isolated_sum c.self.inside.blocks.kinds.items) c.split_towards.ensures.numbers ∙ sum_open c.self.inside.blocks.kinds.items c.self.inside.blocks.free_in.items c.pageblock_of-pageblock.result _ same)) (rw (c.split_towards.ensures.stays.0, c.split_towards.ensures.stays.1) at c.changed.ensures))
