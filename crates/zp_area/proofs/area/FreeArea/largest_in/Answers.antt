use Rattle.std.proofs.Common.{◌^◌, ◌≡◌, ◌*◌, ◌∙◌, ap, false, refl, sym}
use Rattle.std.specs.List.{slice_index_or}
use Rattle.std.proofs.Math.Nat.{mul-mod_left}
use Rattle.std.proofs.lemmas.List.{get_or_default}
use Rattle.zp_model.specs.declared.pageblock_type.PageblockType.TheVariants.{Movable}
use Rattle.zp_model.specs.PageblockType.{is_isolate}
use Rattle.zp_model.specs.Area.{pageblock_pages}
use Rattle.zp_model.specs.BlockSet.{largest_in}
use Rattle.zp_area.specs.Blocks.{Blocks, block_set}
use Rattle.zp_area.specs.Available.{choosable}
use Rattle.zp_area.specs.KeptSets.{set_of}
use Rattle.zp_area.proofs.AvailableBlocks.{available-at}
use Rattle.zp_area.proofs.Keeping.{starts_inside}
use Rattle.zp_area.proofs.LargestInside.{pageblock_held, pageblock_most}
use Rattle.zp_area.proofs.Scattered.{largest_in_same}
use Rattle.zp_area.proofs.area.FreeArea.largest_in.Goals.{After-largest_in, After-largest_seen}
use Rattle.zp_area.proofs.area.FreeArea.largest_in.Goals as goal

-- a pageblock that is not isolated has its blocks in the tree
told : (c : After-largest_in) → c.largest_in.result ≡ largest_in (block_set (set_of c.self.inside.blocks)) (c.args.pageblock * pageblock_pages c.self.inside.blocks.largest) c.self.inside.blocks.largest
told c =
    let a : Blocks = set_of c.self.inside.blocks in
    let first : c.at-first.result ≡ c.args.pageblock * 2 ^ c.self.inside.blocks.largest = c.at-first.ensures ∙ ap (λ q. c.args.pageblock * q) c.pageblock_pages.ensures.pages in
    let shown : is_isolate (slice_index_or c.self.inside.blocks.kinds.items c.args.pageblock Movable) ≡ false =
    ap is_isolate (sym (c.index.ensures ∙ get_or_default c.self.inside.blocks.kinds.items c.args.pageblock c.index.result.now Movable (rw (← c.self.view_is) at c.requires))) ∙ sym c.is_isolate.ensures ∙ c.if-is_isolate.false in
    c.largest_in.ensures
    ∙ rw (c.self.invariant.told, first, c.order.ensures)
    (largest_in_same c.self.inside.blocks.largest c.args.pageblock (block_set a) (choosable c.self.inside.blocks.largest a)
    (λ h e. available-at c.self.inside.blocks.largest a.kinds (block_set a) h ∙ rw (ap (λ q. is_isolate (slice_index_or a.kinds q Movable)) e ∙ shown) refl))

-- of an isolated one the pages tell them
seen : (c : After-largest_seen) → c.largest_seen.result ≡ largest_in (block_set (set_of c.self.inside.blocks)) (c.args.pageblock * pageblock_pages c.self.inside.blocks.largest) c.self.inside.blocks.largest
seen c = c.largest_seen.ensures

pub largest_seen-requires-clause-inside : goal.largest_seen-requires-clause-inside
largest_seen-requires-clause-inside c = starts_inside c.self.inside.blocks.largest (set_of c.self.inside.blocks) c.args.pageblock c.self.invariant.kept.one (rw (← c.self.view_is) at c.requires)

pub returns-clause-answer : goal.returns-clause-answer
returns-clause-answer c = rw (← c.self.view_is) (told (goal.at.returns-clause-answer c).After-largest_in)

pub returns-clause-held : goal.returns-clause-held
returns-clause-held c = rw (← c.self.view_is) (pageblock_held c.self.inside.blocks.largest _ c.args.pageblock c.largest_in.result (told (goal.at.returns-clause-held c).After-largest_in))

pub returns-clause-most : goal.returns-clause-most
returns-clause-most c =
    rw (← c.self.view_is) (pageblock_most c.self.inside.blocks.largest _ c.args.pageblock c.largest_in.result c.self.invariant.kept.one.blocks (told (goal.at.returns-clause-most c).After-largest_in))

pub returns-then-is_isolate-clause-held : goal.returns-then-is_isolate-clause-held
returns-then-is_isolate-clause-held c =
    rw (← c.self.view_is) (pageblock_held c.self.inside.blocks.largest _ c.args.pageblock c.largest_seen.result (seen (goal.at.returns-then-is_isolate-clause-held c).After-largest_seen))

pub returns-then-is_isolate-clause-most : goal.returns-then-is_isolate-clause-most
returns-then-is_isolate-clause-most c =
    rw (← c.self.view_is) (pageblock_most c.self.inside.blocks.largest _ c.args.pageblock c.largest_seen.result c.self.invariant.kept.one.blocks (seen (goal.at.returns-then-is_isolate-clause-most c).After-largest_seen))

pub largest_in-requires : goal.largest_in-requires
largest_in-requires c =
    let f : c.at-first.result ≡ c.args.pageblock * 2 ^ c.self.inside.blocks.largest = c.at-first.ensures ∙ ap (λ q. c.args.pageblock * q) c.pageblock_pages.ensures.pages in
    rw (f, c.order.ensures) (mul-mod_left c.args.pageblock (2 ^ c.self.inside.blocks.largest))
