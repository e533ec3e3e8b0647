use Rattle.std.proofs.Common.{rules, ◌+◌, ◌∙◌, ap, replicate}
use Rattle.zp_model.specs.declared.pageblock_type.PageblockType.TheVariants.{Movable}
use Rattle.zp_area.proofs.Indexing.{indexed_empty}
use Rattle.zp_area.proofs.NoBlocks.{blank_area}
use Rattle.zp_area.proofs.area.FreeArea.new.Goals as goal

pub invariant_of-result : goal.invariant_of-result
invariant_of-result c =
    let e = c.pageblocks-pageblocks.ensures in
    let k = c.in_ok-kinds.ensures.items_if_clones_equal (λ y e. search rules) ∙ ap (λ q. replicate q Movable) e in
    rw (
      blank_area c.args.largest c.args.pages c.args.side _ _ _ _ c.in_ok-table.ensures.table (ap (λ q. q + c.args.side) c.lists.ensures.lists) c.in_ok-lists.ensures.lists k,
      c.in_ok-tree.ensures.empty,
      c.in_ok-free_in.ensures.items_if_clones_equal (λ y e. search rules),
      c.in_ok-claims.ensures,
      c.in_ok-stale.ensures,
      e,
    ) (indexed_empty c.args.largest c.args.pages c.args.side c.requires.pages c.requires.side)

pub returns : goal.returns
returns c =
    let e = c.pageblocks-pageblocks.ensures in
    let k = c.in_ok-kinds.ensures.items_if_clones_equal (λ y e. search rules) ∙ ap (λ q. replicate q Movable) e in
    blank_area c.args.largest c.args.pages c.args.side _ _ _ _ c.in_ok-table.ensures.table (ap (λ q. q + c.args.side) c.lists.ensures.lists) c.in_ok-lists.ensures.lists k
