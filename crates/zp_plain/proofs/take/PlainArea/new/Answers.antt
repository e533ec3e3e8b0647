use Rattle.std.proofs.Common.{rules, ◌≡◌, true, [], replicate, ap, sym, subst, ◌∙◌}
use Rattle.zp_model.specs.declared.pageblock_type.PageblockType.TheVariants.{Movable}
use Rattle.zp_model.specs.Area.{Area, lists_count, opening, pageblocks_of}
use Rattle.zp_plain.specs.Sound.{IsSoundArea}
use Rattle.zp_plain.proofs.SoundAreas.{settled_as, table_none, sound_opening}
use Rattle.zp_plain.proofs.take.PlainArea.new.Goals as goal

pub settle-requires : goal.settle-requires
settle-requires c =
    let u : c.in_ok-free.free.items ≡ replicate c.args.pages true = c.in_ok-free.ensures.items_if_clones_equal (λ y k. search rules) in
    let k : c.in_ok-kinds.kinds.items ≡ replicate (pageblocks_of c.args.largest c.args.pages) Movable =
    c.in_ok-kinds.ensures.items_if_clones_equal (λ y k. search rules) ∙ ap (λ q. replicate q Movable) c.pageblocks.ensures in
    rw (c.deref.ensures.value, u, c.deref-2.ensures.value, k, c.in_ok-lists.ensures, c.lists.ensures.lists) (table_none c.args.largest c.args.pages c.requires)

after : (c : goal.After-settle) →
    (let a : Area = record { largest = c.args.largest; free = c.in_ok-free.free.items; kinds = c.in_ok-kinds.kinds.items; lists = c.settle.new.lists.items } in a) ≡ opening c.args.largest c.args.pages
unfolding opening
after c =
    let u : c.in_ok-free.free.items ≡ replicate c.args.pages true = c.in_ok-free.ensures.items_if_clones_equal (λ y k. search rules) in
    let k : c.in_ok-kinds.kinds.items ≡ replicate (pageblocks_of c.args.largest c.args.pages) Movable =
    c.in_ok-kinds.ensures.items_if_clones_equal (λ y k. search rules) ∙ ap (λ q. replicate q Movable) c.pageblocks.ensures in
    let e : c.in_ok-lists.lists.items ≡ replicate (lists_count c.args.largest) [] = c.in_ok-lists.ensures ∙ ap (λ q. replicate q []) c.lists.ensures.lists in
    rw (u, k, ← e) (settled_as c.args.largest _ _ _ _ _ _ (c.deref.ensures.value ∙ u) (c.deref-2.ensures.value ∙ k) c.settle.ensures)

pub returns : goal.returns
returns c = after c

pub invariant_of-result : goal.invariant_of-result
invariant_of-result c =
    subst IsSoundArea (sym (after c)) (sound_opening c.args.largest c.args.pages c.requires)
