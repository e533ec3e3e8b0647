use Rattle.std.proofs.Common.{◌*◌, ◌≡◌, ◌∙◌, ap, arith, length, rules, true}
use Rattle.zp_model.specs.PageblockType.{is_isolate}
use Rattle.zp_model.specs.Area.{pageblock_pages}
use Rattle.zp_tree.specs.declared.constants.TheConstants.{GROUP_PAGES}
use Rattle.zp_tree.specs.Blocks.{without_group}
use Rattle.zp_area.specs.Blocks.{Blocks}
use Rattle.zp_area.specs.NotedBlocks.{blocks_of}
use Rattle.zp_area.proofs.AvailableBlocks.{available-length}
use Rattle.zp_area.proofs.ClearedPageblocks.{cleared_pageblock}
use Rattle.zp_area.proofs.Keeping.{blocks_length, starts_inside}
use Rattle.zp_area.proofs.available.tell_pageblock.Goals as goal

pub clear_group-requires : goal.clear_group-requires
clear_group-requires c =
    let a : Blocks = record { largest = c.args.largest; rows = c.args.lists.now; kinds = c.args.kinds.now.items } in
    let whole : pageblock_pages c.args.largest ≡ GROUP_PAGES = omega (arith, c.pageblock_pages.ensures.pages) in
    let size = ap length c.requires.told ∙ available-length c.args.largest c.args.kinds.now.items (blocks_of c.args.lists.now.states) ∙ blocks_length c.args.lists.now.states in
    omega (arith, size, ap (λ n. c.args.pageblock * n) whole, starts_inside c.args.largest a c.args.pageblock c.requires.one c.requires.pageblock)

pub returns-then-pageblock_pages-eq-GROUP_PAGES : goal.returns-then-pageblock_pages-eq-GROUP_PAGES
returns-then-pageblock_pages-eq-GROUP_PAGES c =
    let whole : pageblock_pages c.args.largest ≡ GROUP_PAGES = omega (arith, c.pageblock_pages.ensures.pages) in
    let is : is_isolate c.args.kind ≡ true = search rules in
    c.clear_group.ensures ∙ ap (λ s. without_group s c.args.pageblock) c.requires.told ∙ cleared_pageblock c.args.largest c.args.pageblock c.args.kind c.args.kinds.now.items (blocks_of c.args.lists.now.states) whole c.requires.pageblock is
