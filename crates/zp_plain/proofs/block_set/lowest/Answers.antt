use Rattle.std.proofs.Common.{ℕ, ◌≡◌, length, arith, refl, sym, ◌∙◌, ap, Option}
use Rattle.std.specs.Prelude.{leb}
use Rattle.zp_model.specs.BlockSet.{block_if}
use Rattle.zp_plain.proofs.Looking.{blocks_open, length-blocks_open, look, lowest_all, range_here, range_none}
use Rattle.zp_plain.proofs.block_set.lowest.Goals.{After-block_if}
use Rattle.zp_plain.proofs.block_set.lowest.Goals as goal

pub pages-init : goal.pages-init
pages-init c = lowest_all (blocks_open c.args.largest c.args.free.now c.args.kinds.now) c.args.order (length c.args.free.now) (length-blocks_open c.args.largest c.args.free.now c.args.kinds.now)

-- the look at the page
seen : (c : After-block_if) → look (blocks_open c.args.largest c.args.free.now c.args.kinds.now) c.args.order c.pages.i ≡ c.block_if.result
seen c =
    let s = blocks_open c.args.largest c.args.free.now c.args.kinds.now in
    ap (λ (h : ℕ). look s c.args.order h) (sym c.at-head.ensures)
    ∙ ap (λ (o : Option ℕ). block_if (λ g j. leb c.args.order j) c.at-head.result o) (sym c.available_block_at-block.ensures) ∙ sym c.block_if.ensures

pub returns-in-Some : goal.returns-in-Some
returns-in-Some c =
    sym (c.pages.invariant ∙ rw (range_here c.pages.i (length c.args.free.now) (omega arith), seen (goal.at.returns-in-Some c).After-block_if ∙ c.in-Some.is) refl)

pub pages-preserved : goal.pages-preserved
pages-preserved c = c.pages.invariant ∙ rw (range_here c.pages.i (length c.args.free.now) (omega arith), seen (goal.at.pages-preserved c).After-block_if ∙ c.in_default.is) refl

pub returns : goal.returns
returns c = sym (c.pages.invariant ∙ rw (range_none c.pages.i (length c.args.free.now) (omega arith)) refl)
