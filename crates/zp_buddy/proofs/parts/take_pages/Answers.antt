use Rattle.std.proofs.Common.{ℕ, ◌+◌, ◌-◌, ◌^◌, ◌≡◌, ◌≤◌, ◌<◌, sym, ◌∙◌, subst, arith, max, true}
use Rattle.std.proofs.lemmas.Bool.{both_ways, false_from_ne_true}
use Rattle.zp_model.specs.Block.{head}
use Rattle.zp_model.specs.BlockSet.{cover}
use Rattle.zp_model.specs.Runs.{has_pages}
use Rattle.zp_model.proofs.Heads.{head_le, lt_head}
use Rattle.zp_model.proofs.LowestRun.{has_pages-from, has_pages-to}
use Rattle.zp_model.proofs.Pages.{In}
use Rattle.zp_area.specs.Blocks.{block_set}
use Rattle.zp_buddy.specs.Parts.{IsLeftBetween, IsLeftRun}
use Rattle.zp_buddy.proofs.PartsTaken.{both_free, behind_free, free_behind, left_on, left_run, none_left}
use Rattle.zp_buddy.proofs.parts.take_pages.Goals.{After-number-2, In-Some}
use Rattle.zp_buddy.proofs.parts.take_pages.Goals as goal

pub returns-in_default-clause-when : goal.returns-in_default-clause-when
returns-in_default-clause-when c =
    sym (false_from_ne_true _ (λ e. both_ways _ c.in_default.ensures.none (has_pages-to (cover (block_set c.args.area.now)) c.args.at c.args.pages e c.args.at (omega arith) (omega (arith, c.requires.some)))))

-- the pages of the block around the first page are free
block : (c : In-Some) → (i : ℕ) → head c.args.at c.in-Some.order ≤ i → i < head c.args.at c.in-Some.order + 2 ^ c.in-Some.order → In (cover (block_set c.args.area.now)) i
block c = c.requires.sound.normal.inside (head c.args.at c.in-Some.order) c.in-Some.order c.in-Some.ensures.some

pub returns-then-end-block_end-clause-when : goal.returns-then-end-block_end-clause-when
returns-then-end-block_end-clause-when c =
    sym (has_pages-from (cover (block_set c.args.area.now)) c.args.at c.args.pages (λ i lo hi.
    block (goal.at.returns-then-end-block_end-clause-when c).In-Some i (omega (arith, head_le c.args.at c.in-Some.order))
    (omega (arith, c.number.ensures.same, c.number-2.ensures.same, c.pages.ensures.pages, c.head.ensures))))

pub returns-then-end-block_end-clause-taken : goal.returns-then-end-block_end-clause-taken
returns-then-end-block_end-clause-taken c = λ yes. left_run c.args.area.now c.take_part.new.area c.args.at c.args.pages (head c.args.at c.in-Some.order) (head c.args.at c.in-Some.order + 2 ^ c.in-Some.order) c.take_part.ensures

-- where the block ends
end : (c : After-number-2) → c.number.result + c.pages.result ≡ head c.args.at c.in-Some.order + 2 ^ c.in-Some.order
end c = omega (arith, c.number.ensures.same, c.pages.ensures.pages, c.head.ensures)

pub returns-then-not-is_free_run-clause-when : goal.returns-then-not-is_free_run-clause-when
returns-then-not-is_free_run-clause-when c =
    let z = c.number.result + c.pages.result in
    let k = c.number-2.result + c.args.pages - z in
    let s = (goal.at.returns-then-not-is_free_run-clause-when c).After-number-2 in
    sym (false_from_ne_true _ (λ e.
    both_ways _ c.if-not-is_free_run.true (c.is_free_run.ensures ∙ rw c.at.ensures
    (behind_free (cover (block_set c.args.area.now)) c.args.at c.args.pages z k (omega (arith, end s, lt_head c.args.at c.in-Some.order)) (omega (arith, c.number-2.ensures.same)) e))))

pub take_blocks-requires-clause-free : goal.take_blocks-requires-clause-free
take_blocks-requires-clause-free c =
    let z = c.number.result + c.pages.result in
    let s = (goal.at.take_blocks-requires-clause-free c).After-number-2 in
    let full : has_pages (cover (block_set c.args.area.now)) z (c.number-2.result + c.args.pages - z) ≡ true = rw c.at.ensures at (sym c.is_free_run.ensures ∙ c.if-not-is_free_run.false) in
    free_behind c.args.area.now c.take_part-2.new.area c.args.at (z - c.number-3.result) (head c.args.at c.in-Some.order) (head c.args.at c.in-Some.order + 2 ^ c.in-Some.order) c.take_part-2.ensures z
    (c.number-2.result + c.args.pages - z) (omega (arith, c.number-3.ensures.same, end s, lt_head c.args.at c.in-Some.order)) full

pub take_blocks-requires-clause-before : goal.take_blocks-requires-clause-before
take_blocks-requires-clause-before c =
    let z = c.number.result + c.pages.result in
    let s = (goal.at.take_blocks-requires-clause-before c).After-number-2 in
    none_left c.args.area.now c.take_part-2.new.area c.args.at (z - c.number-3.result) (head c.args.at c.in-Some.order) (head c.args.at c.in-Some.order + 2 ^ c.in-Some.order) c.take_part-2.ensures (z - 1)
    (omega (arith, end s, lt_head c.args.at c.in-Some.order)) (omega (arith, c.number-3.ensures.same, end s, lt_head c.args.at c.in-Some.order))

pub returns-clause-when : goal.returns-clause-when
returns-clause-when c =
    let z = c.number.result + c.pages.result in
    let s = (goal.at.returns-clause-when c).After-number-2 in
    let full : has_pages (cover (block_set c.args.area.now)) z (c.number-2.result + c.args.pages - z) ≡ true = rw c.at.ensures at (sym c.is_free_run.ensures ∙ c.if-not-is_free_run.false) in
    sym (both_free (cover (block_set c.args.area.now)) c.args.at c.args.pages z (c.number-2.result + c.args.pages - z) (omega (arith, end s, lt_head c.args.at c.in-Some.order)) (omega (arith, c.number-2.ensures.same)) (λ i lo hi. block (goal.at.returns-clause-when c).In-Some i (omega (arith, head_le c.args.at c.in-Some.order)) (omega (arith, end s))) full)

pub returns-clause-taken : goal.returns-clause-taken
returns-clause-taken c = λ yes.
    let z = c.number.result + c.pages.result in
    let g = head c.args.at c.in-Some.order in
    let s = (goal.at.returns-clause-taken c).After-number-2 in
    let a = c.args.area.now in
    let one : IsLeftBetween a c.take_part-2.new.area c.args.at (z - c.number-3.result) g z = subst (λ e. IsLeftBetween a c.take_part-2.new.area c.args.at (z - c.number-3.result) g e) (sym (end s)) c.take_part-2.ensures in
    let all = left_on a c.take_part-2.new.area c.take_blocks.new.area c.args.at (z - c.number-3.result) (c.number-2.result + c.args.pages - z) g z c.take_blocks.ensures.0 c.requires.sound
    (omega (arith, end s)) (omega (arith, c.number-3.ensures.same, end s, lt_head c.args.at c.in-Some.order)) one c.take_blocks.ensures.1 in
    let size : z - c.number-3.result + (c.number-2.result + c.args.pages - z) ≡ c.args.pages = omega (arith, c.number-3.ensures.same, c.number-2.ensures.same, end s, lt_head c.args.at c.in-Some.order) in
    subst (λ n. IsLeftRun a c.take_blocks.new.area c.args.at n) size (left_run a c.take_blocks.new.area c.args.at (z - c.number-3.result + (c.number-2.result + c.args.pages - z)) g (max z c.take_blocks.ensures.0) all)
