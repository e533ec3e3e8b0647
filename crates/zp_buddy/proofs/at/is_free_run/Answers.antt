use Rattle.std.proofs.Common.{◌+◌, ◌^◌, ◌<◌, inl, inr, sym, length, arith}
use Rattle.std.proofs.lemmas.Bool.{both_ways, cases_lt, false_from_ne_true}
use Rattle.zp_model.specs.Block.{IsBlock, head}
use Rattle.zp_model.specs.BlockSet.{cover}
use Rattle.zp_model.proofs.Heads.{head_le, lt_head}
use Rattle.zp_model.proofs.LowestRun.{has_pages-from, has_pages-to}
use Rattle.zp_area.specs.Blocks.{block_set}
use Rattle.zp_area.proofs.Keeping.{blocks_length}
use Rattle.zp_area.proofs.OneBlock.{around_covered}
use Rattle.zp_buddy.proofs.at.is_free_run.Goals.{In-Some}
use Rattle.zp_buddy.proofs.at.is_free_run.Goals as goal

-- the block around the next page is one of the zone
block : (c : In-Some) → IsBlock c.args.area.now.largest (length c.args.area.now.rows.states) (head c.at-page.result c.in-Some.order) c.in-Some.order
block c = rw (← blocks_length c.args.area.now.rows.states) (c.pages-pages.ensures.one.blocks.block (head c.at-page.result c.in-Some.order) c.in-Some.order c.in-Some.ensures.some)

pub overflow_add-next : goal.overflow_add-next
overflow_add-next c =
    let b = block (goal.at.overflow_add-next c).In-Some in
    omega (arith, b.inside, c.head.ensures)

pub looks-preserved : goal.looks-preserved
looks-preserved c =
    let i = c.looks.invariant in
    let b = block (goal.at.looks-preserved c).In-Some in
    let past : c.at-page.result < head c.at-page.result c.in-Some.order + 2 ^ c.in-Some.order = lt_head c.at-page.result c.in-Some.order in
    record {
      from = omega (arith, c.head.ensures);
      within = omega (arith, b.inside, c.head.ensures);
      free = λ p lo hi. elim (cases_lt p c.looks.next) [
        | inl before ↦ i.free p lo before
        | inr here ↦
            around_covered c.args.area.now.largest (block_set c.args.area.now) p (head c.at-page.result c.in-Some.order) c.in-Some.order c.pages-pages.ensures.one.blocks
            (record { starts = c.in-Some.ensures.some; from = omega (arith, head_le c.at-page.result c.in-Some.order); to = omega (arith, c.head.ensures) })
      ];
    }

pub looks-smaller : goal.looks-smaller
looks-smaller c = omega (arith, lt_head c.at-page.result c.in-Some.order, c.head.ensures)

pub returns-in_default : goal.returns-in_default
returns-in_default c =
    sym (false_from_ne_true _ (λ e. both_ways _ c.in_default.ensures.none (has_pages-to (cover (block_set c.args.area.now)) c.args.at c.args.pages e c.at-page.result (omega arith) (omega arith))))

pub returns : goal.returns
returns c = sym (has_pages-from (cover (block_set c.args.area.now)) c.args.at c.args.pages (λ p lo hi. c.looks.invariant.free p lo (omega arith)))
