use Rattle.std.proofs.Common.{◌≡◌, ℕ, ◌∙◌, arith, true, false, List, length}
use Rattle.std.proofs.lemmas.Bool.{le-leb, lt-leb}
use Rattle.zp_model.specs.Block.{IsBlock}
use Rattle.zp_model.specs.BlockSet.{Starts}
use Rattle.zp_area.specs.Blocks.{block_set, free_list_of}
use Rattle.zp_area.proofs.Keeping.{blocks_length, typed_there}
use Rattle.zp_area.specs.Claims.{is_half_free}
use Rattle.zp_buddy.proofs.Choosing.{on_starts, on_typed, taken_distinct}
use Rattle.zp_buddy.proofs.Walks.{from_after, next_after}
use Rattle.zp_buddy.proofs.choice.half_free_on.Goals.{In-Some}
use Rattle.zp_buddy.proofs.choice.half_free_on.Goals as goal

pub returns-then-free_in-claim_pages-clause-found : goal.returns-then-free_in-claim_pages-clause-found
returns-then-free_in-claim_pages-clause-found c =
    let i = c.heads.invariant in
    let xs : List ℕ = free_list_of c.args.area.now.largest c.args.area.now c.args.order c.pageblock_type-list.result in
    let t : is_half_free c.args.area.now.largest c.args.area.now c.in-Some.head ≡ true = le-leb _ _ (rw (c.free_in.ensures, c.pageblock_of.ensures, c.claim_pages.ensures, c.largest-largest.ensures) at c.if-free_in-claim_pages.true) in
    rw (← c.pageblock_type-list.ensures, i.rest, c.in-Some.is, from_after c.in-Some.head xs (taken_distinct c.args.area.now.largest c.args.area.now c.args.order c.pageblock_type-list.result c.pages-pages.ensures.row.distinct) (rw c.in-Some.is at i.next), t)

pub heads-smaller : goal.heads-smaller
heads-smaller c =
    let xs : List ℕ = free_list_of c.args.area.now.largest c.args.area.now c.args.order c.pageblock_type-list.result in
    rw (c.after-next.ensures.answer, c.in-Some.is, from_after c.in-Some.head xs (taken_distinct c.args.area.now.largest c.args.area.now c.args.order c.pageblock_type-list.result c.pages-pages.ensures.row.distinct) (rw c.in-Some.is at c.heads.invariant.next))
    (omega arith)

pub heads-preserved : goal.heads-preserved
heads-preserved c =
    let i = c.heads.invariant in
    let xs : List ℕ = free_list_of c.args.area.now.largest c.args.area.now c.args.order c.pageblock_type-list.result in
    let t : is_half_free c.args.area.now.largest c.args.area.now c.in-Some.head ≡ false = lt-leb _ _ (rw (c.free_in.ensures, c.pageblock_of.ensures, c.claim_pages.ensures, c.largest-largest.ensures) at c.if-free_in-claim_pages.false) in
    let here = from_after c.in-Some.head xs (taken_distinct c.args.area.now.largest c.args.area.now c.args.order c.pageblock_type-list.result c.pages-pages.ensures.row.distinct) (rw c.in-Some.is at i.next) in
    record {
      rest = i.rest ∙ rw (c.after-next.ensures.answer, c.in-Some.is, here, t);
      next = rw c.after-next.ensures.answer (next_after c.in-Some.head xs);
    }

-- a block starts at the page that is looked at
starts : (c : In-Some) → Starts (block_set c.args.area.now) c.in-Some.head c.args.order
starts c = on_starts c.args.area.now.largest c.args.area.now c.in-Some.head c.args.order c.pageblock_type-list.result c.pages-pages.ensures.one (rw c.in-Some.is at c.heads.invariant.next)

pub free_in-requires : goal.free_in-requires
free_in-requires c =
    let one = c.pages-pages.ensures.one in
    let s = starts (goal.at.free_in-requires c).In-Some in
    let block : IsBlock c.args.area.now.largest (length c.args.area.now.rows.states) c.in-Some.head c.args.order = rw (← blocks_length c.args.area.now.rows.states) (one.blocks.block _ _ s) in
    rw (c.pageblock_of.ensures, c.largest-largest.ensures) (typed_there c.args.area.now.largest c.args.area.now c.in-Some.head c.args.order one block)

pub returns-then-free_in-claim_pages-clause-starts : goal.returns-then-free_in-claim_pages-clause-starts
returns-then-free_in-claim_pages-clause-starts c = starts (goal.at.returns-then-free_in-claim_pages-clause-starts c).In-Some

pub returns-then-free_in-claim_pages-clause-typed : goal.returns-then-free_in-claim_pages-clause-typed
returns-then-free_in-claim_pages-clause-typed c = rw (← c.pageblock_type-list.ensures) (on_typed c.args.area.now.largest c.args.area.now c.in-Some.head c.args.order c.pageblock_type-list.result c.pages-pages.ensures.one (rw c.in-Some.is at c.heads.invariant.next))
