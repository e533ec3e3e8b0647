use Rattle.std.proofs.Common.{◌^◌, ℕ, ◌≡◌, ◌+◌, ◌*◌, ◌≤◌, ◌<◌, arith, refl, ◌∙◌, ap, min, length}
use Rattle.zp_model.specs.declared.state.State.TheVariants.{Free}
use Rattle.zp_model.specs.Rows.{state_at}
use Rattle.zp_model.proofs.TypeNumbers.{list_number_below}
use Rattle.zp_area.proofs.NotedBlocks.{starts-from}
use Rattle.zp_area.specs.Blocks.{Blocks}
use Rattle.zp_area.specs.Moved.{pages_seen}
use Rattle.zp_area.proofs.Keeping.{starts_inside}
use Rattle.zp_area.proofs.Relisting.{some_seen, relisting_none, relisting_on, looking_on}
use Rattle.zp_area.proofs.Retyping.{all_listed, looking, relisted_now}
use Rattle.zp_area.proofs.retypes.retype.Goals as goal

pub pages-init : goal.pages-init
pages-init c =
    let starts-at = ap (λ q. c.args.pageblock * q) c.pageblock_pages-size.ensures.pages in
    let a : Blocks = record { largest = c.args.largest; rows = c.args.lists.now; kinds = c.args.kinds.now.items } in
    record { from = omega (arith, starts-at); upto = omega (arith, starts-at, starts_inside c.args.largest a c.args.pageblock c.requires.one c.requires.pageblock); states = refl; moved = rw starts-at (relisting_none c.args.largest _ _ _ _ _ (all_listed c.args.largest a c.requires.one)) }

pub move_block-seen-requires-clause-list : goal.move_block-seen-requires-clause-list
move_block-seen-requires-clause-list c = λ k e.
    let f : state_at c.args.lists.now.states c.pages.i ≡ Free k = rw (c.pages.invariant.states, c.at.ensures) at e in
    let block = c.requires.one.blocks.block _ _ (starts-from c.args.lists.now.states c.pages.i k f) in
    omega (arith, c.pages.invariant.moved.table, c.requires.one.table, list_number_below c.args.largest k c.args.kind block.order)

pub move_block-seen-requires-clause-listed : goal.move_block-seen-requires-clause-listed
move_block-seen-requires-clause-listed c =
    let starts-at = ap (λ q. c.args.pageblock * q) c.pageblock_pages-size.ensures.pages in
    let a : Blocks = record { largest = c.args.largest; rows = c.args.lists.now; kinds = c.args.kinds.now.items } in
    let i = c.pages.invariant in
    let x = looking c.args.largest c.args.pageblock c.pages.i c.index-from.result.now c.args.kind a c.requires.one c.requires.pageblock (omega (arith, starts-at, c.pageblock_pages-size.ensures.pages)) (omega (arith, starts-at, c.pageblock_pages-size.ensures.pages))
    c.index-from.ensures c.requires.other in
    λ k e.
    let f : state_at c.args.lists.now.states c.pages.i ≡ Free k = rw (i.states, c.at.ensures) at e in
    rw c.at.ensures (looking_on x k _ i.moved (starts-from c.args.lists.now.states c.pages.i k f))

pub pages-preserved : goal.pages-preserved
pages-preserved c =
    let starts-at = ap (λ q. c.args.pageblock * q) c.pageblock_pages-size.ensures.pages in
    let a : Blocks = record { largest = c.args.largest; rows = c.args.lists.now; kinds = c.args.kinds.now.items } in
    let i = c.pages.invariant in
    let x = λ (h : ℕ) (lo : c.pages.i ≤ h) (hi : h < c.min-i.result).
    looking c.args.largest c.args.pageblock h c.index-from.result.now c.args.kind a c.requires.one c.requires.pageblock (omega (arith, starts-at, c.pageblock_pages-size.ensures.pages)) (omega (arith, starts-at, c.pageblock_pages-size.ensures.pages))
    c.index-from.ensures c.requires.other in
    let n : c.move_block-seen.result ≡ pages_seen (state_at c.args.lists.now.states c.pages.i) = c.move_block-seen.ensures.pages ∙ rw (c.at.ensures, i.states) in
    let y = relisting_on c.args.largest _ c.pages.i c.min-i.result _ _ c.args.lists.now.states _ _ c.pages.lists c.move_block-seen.new.lists x
    (omega (arith, some_seen (state_at c.args.lists.now.states c.pages.i))) (omega (arith, starts-at, c.pageblock_pages-size.ensures.pages)) i.states i.moved (rw c.at.ensures at c.move_block-seen.ensures.after) in
    let m = some_seen (state_at c.args.lists.now.states c.pages.i) in
    record { from = omega (arith, starts-at, c.pageblock_pages-size.ensures.pages); upto = omega (arith, starts-at, c.pageblock_pages-size.ensures.pages); states = y.0; moved = y.1 }

pub returns-clause-lists : goal.returns-clause-lists
returns-clause-lists c =
    let starts-at = ap (λ q. c.args.pageblock * q) c.pageblock_pages-size.ensures.pages in
    let a : Blocks = record { largest = c.args.largest; rows = c.args.lists.now; kinds = c.args.kinds.now.items } in
    let last : c.pages.i ≡ min (length c.args.lists.now.states) (c.args.pageblock * 2 ^ c.args.largest + 2 ^ c.args.largest) = omega (arith, starts-at, c.pageblock_pages-size.ensures.pages) in
    relisted_now c.args.largest c.args.pageblock c.args.kind a _ c.requires.one c.requires.pageblock (rw last at c.pages.invariant.moved)
