use Rattle.std.proofs.Common.{ℕ, ◌≡◌, ◌<◌, ◌/◌, ap, sym, length, get_or-set_same}
use Rattle.std.proofs.lemmas.Bool.{not-true, not-false}
use Rattle.zp_model.specs.Take.{taken}
use Rattle.zp_model.specs.Block.{IsBlock}
use Rattle.zp_model.specs.Area.{pageblock_pages}
use Rattle.zp_model.specs.declared.pageblock_type.PageblockType.TheVariants.{Movable}
use Rattle.zp_model.specs.PageblockType.{pageblock_type}
use Rattle.zp_area.specs.Blocks.{Blocks}
use Rattle.zp_area.proofs.Keeping.{blocks_length, typed_there}
use Rattle.zp_buddy.specs.Choices.{frames_in}
use Rattle.zp_buddy.proofs.Claiming.{retyped_frames}
use Rattle.zp_buddy.proofs.Taking.{taken_claimed}
use Rattle.zp_buddy.proofs.takes.take_chosen.Goals.{After-pageblock_of}
use Rattle.zp_buddy.proofs.takes.take_chosen.Goals as goal

pub returns-then-not-chosen-clause-after : goal.returns-then-not-chosen-clause-after
unfolding taken
returns-then-not-chosen-clause-after c = rw (not-true _ c.if-not-chosen.true) c.take_block.ensures.after

pub returns-clause-after : goal.returns-clause-after
returns-clause-after c =
    let a = c.args.area.now in
    taken_claimed (frames_in c.args.area.now.largest a) (frames_in c.args.area.now.largest c.retype.new.self) _ c.args.order c.args.chosen.block.head c.pageblock_of.result c.args.kind c.args.chosen.claims
    (rw (ap (λ (q : Blocks). q.largest) c.retype.ensures.after) at c.take_block-2.ensures.after) (not-false _ c.if-not-chosen.false) (rw c.largest.ensures at c.pageblock_of.ensures)
    (rw (c.retype.ensures.after, c.pageblock_type.ensures) (retyped_frames c.args.area.now.largest a c.pageblock_of.result (pageblock_type c.args.kind) c.requires.sound)) (ap (λ (q : Blocks). q.rows.states) c.retype.ensures.after)

there : (c : After-pageblock_of) → c.pageblock_of.result < length c.args.area.now.kinds
there c =
    let one = c.pages-pages.ensures.one in
    let block : IsBlock c.args.area.now.largest (length c.args.area.now.rows.states) c.args.chosen.block.head c.args.chosen.block.order = rw (← blocks_length c.args.area.now.rows.states) (one.blocks.block _ _ c.requires.chosen.starts) in
    rw (c.pageblock_of.ensures, c.largest.ensures) (typed_there c.args.area.now.largest c.args.area.now c.args.chosen.block.head c.args.chosen.block.order one block)

pub retype-requires : goal.retype-requires
retype-requires c = there (goal.at.retype-requires c).After-pageblock_of

pub take_block-requires-2-clause-typed : goal.take_block-requires-2-clause-typed
take_block-requires-2-clause-typed c =
    let b : ℕ = c.pageblock_of.result in
    let lt : b < length c.args.area.now.kinds = there (goal.at.take_block-requires-2-clause-typed c).After-pageblock_of in
    let e : b ≡ c.args.chosen.block.head / pageblock_pages c.args.area.now.largest = rw c.largest.ensures at c.pageblock_of.ensures in
    rw (c.retype.ensures.after, c.pageblock_type.ensures, ← e) (sym (get_or-set_same c.args.area.now.kinds b (pageblock_type c.args.kind) Movable lt))
