use Rattle.std.proofs.Common.{rules, ◌≡◌, ◌<◌, sym, ◌∙◌, ap, arith, length, length-set, slice_set}
use Rattle.std.proofs.lemmas.List.{get_or_default}
use Rattle.zp_model.specs.declared.pageblock_type.PageblockType.TheVariants.{Movable}
use Rattle.zp_area.specs.declared.kept_blocks.KeptBlocks.{KeptBlocks}
use Rattle.zp_area.specs.Available.{choosable, isolated_sum}
use Rattle.zp_area.specs.Blocks.{Blocks}
use Rattle.zp_area.specs.KeptSets.{set_of}
use Rattle.zp_area.specs.OneSet.{IsKept}
use Rattle.zp_area.specs.Retyped.{all_relisted}
use Rattle.zp_area.proofs.Indexing.{indexed_anew, isolated_most, others_stand, pageblock_kept}
use Rattle.zp_area.proofs.OnePageblock.{changed_retyped}
use Rattle.zp_area.proofs.Retyping.{kept_retyped, retyped_by, retyped_same}
use Rattle.zp_area.proofs.area.FreeArea.retype.Goals.{After-retype}
use Rattle.zp_area.proofs.area.FreeArea.retype.Goals as goal

-- the telling changed the tree alone
same_largest : (c : After-retype) → c.tell_type.new.blocks.largest ≡ c.self.inside.blocks.largest
same_largest c = ap (λ (b : KeptBlocks). b.largest) c.tell_type.ensures.told

same_numbers : (c : After-retype) → c.tell_type.new.blocks.free_in ≡ c.self.inside.blocks.free_in
same_numbers c = ap (λ (b : KeptBlocks). b.free_in) c.tell_type.ensures.told

states : (c : After-retype) → c.retype.new.lists.states ≡ c.self.inside.blocks.lists.states
states c = c.retype.ensures.states ∙ ap (λ (b : KeptBlocks). b.lists.states) c.tell_type.ensures.told

kinds : (c : After-retype) → c.retype.new.kinds.items ≡ slice_set c.self.inside.blocks.kinds.items c.args.pageblock c.args.kind
kinds c = c.retype.ensures.kinds ∙ ap (λ (b : KeptBlocks). slice_set b.kinds.items c.args.pageblock c.args.kind) c.tell_type.ensures.told

lists : (c : After-retype) → c.retype.new.lists.lists ≡ all_relisted c.self.inside.blocks.largest (set_of c.self.inside.blocks) c.retype.new.kinds.items
lists c = c.retype.ensures.lists ∙ ap (λ (b : KeptBlocks). all_relisted b.largest (set_of b) c.retype.new.kinds.items) c.tell_type.ensures.told

kept : (c : After-retype) → IsKept c.self.inside.blocks.largest (record { largest = c.self.inside.blocks.largest; rows = c.retype.new.lists; kinds = c.retype.new.kinds.items }) c.self.inside.blocks.free_in.items
kept c =
    let a : Blocks = set_of c.self.inside.blocks in
    rw (retyped_by c.self.inside.blocks.largest a c.args.pageblock c.args.kind c.retype.new.lists _ (states c) (kinds c) (lists c))
    (kept_retyped c.self.inside.blocks.largest a _ c.args.pageblock c.args.kind c.self.invariant.kept)

told : (c : After-retype) → c.tell_type.new.blocks.tree ≡ choosable c.self.inside.blocks.largest (record { largest = c.self.inside.blocks.largest; rows = c.retype.new.lists; kinds = c.retype.new.kinds.items })
told c = rw (kinds c, states c) (ap (λ (b : KeptBlocks). b.tree) c.tell_type.ensures.told)

apart : (c : After-retype) → c.tell_type.new.isolated ≡ isolated_sum c.retype.new.kinds.items c.self.inside.blocks.free_in.items
apart c = rw (kinds c) c.tell_type.ensures.apart

inside : (c : After-retype) → c.args.pageblock < length c.self.inside.blocks.kinds.items
inside c = rw (← c.self.view_is) at c.requires

pub tell_type-requires-clause-few : goal.tell_type-requires-clause-few
tell_type-requires-clause-few c =
    let a : Blocks = set_of c.self.inside.blocks in
    omega (arith, isolated_most c.self.inside.blocks.largest _ _ (kept_retyped c.self.inside.blocks.largest a _ c.args.pageblock c.args.kind c.self.invariant.kept))

pub tell_type-requires-clause-numbers : goal.tell_type-requires-clause-numbers
tell_type-requires-clause-numbers c = c.self.invariant.kept.each.blocks ∙ sym c.self.invariant.kept.one.typed

pub changed-requires-clause-pageblocks : goal.changed-requires-clause-pageblocks
changed-requires-clause-pageblocks c =
    let before = (goal.at.changed-requires-clause-pageblocks c).After-retype in
    rw (same_largest before, same_numbers before) (λ b lt. pageblock_kept c.self.inside.blocks.largest b _ _ _ (kept before) (told before) lt)

pub changed-requires-clause-inside : goal.changed-requires-clause-inside
changed-requires-clause-inside c =
    let before = (goal.at.changed-requires-clause-inside c).After-retype in
    omega (arith, inside before, ap length (kinds before), length-set c.self.inside.blocks.kinds.items c.args.pageblock c.args.kind)

pub changed-requires-clause-others : goal.changed-requires-clause-others
changed-requires-clause-others c =
    let a : Blocks = set_of c.self.inside.blocks in
    let before = (goal.at.changed-requires-clause-others c).After-retype in
    rw (same_largest before) (others_stand c.self.inside.blocks.largest c.args.pageblock _ _ _ _ _ _ _ _ _ _ _ c.self.invariant (kept before) (told before)
    (rw (retyped_by c.self.inside.blocks.largest a c.args.pageblock c.args.kind c.retype.new.lists _ (states before) (kinds before) (lists before)) (changed_retyped c.self.inside.blocks.largest a c.args.pageblock c.args.kind)))

pub invariant_of-self : goal.invariant_of-self
invariant_of-self c =
    let before = (goal.at.invariant_of-self c).After-retype in
    rw (same_largest before, same_numbers before) (indexed_anew c.self.inside.blocks.largest _ _ _ _ _ _ _ (kept before) (told before) (apart before) (rw (same_largest before) at c.changed.ensures))

pub returns-else-ne-clause-after : goal.returns-else-ne-clause-after
returns-else-ne-clause-after c =
    let a : Blocks = set_of c.self.inside.blocks in
    let e : c.index.result.now ≡ c.args.kind = search rules in
    rw (← c.self.view_is) (sym (retyped_same c.self.inside.blocks.largest a c.args.pageblock c.args.kind c.self.invariant.kept.one
    (sym e ∙ c.index.ensures ∙ get_or_default c.self.inside.blocks.kinds.items c.args.pageblock c.index.result.now Movable (rw (← c.self.view_is) at c.requires))))
