use Rattle.std.proofs.Common.{ℕ, ◌≡◌, ◌+◌, ◌-◌, ◌*◌, ◌^◌, arith, refl, sym, ◌∙◌, ap, map, Option}
use Rattle.std.specs.List.{range_with_len}
use Rattle.std.specs.Prelude.{leb}
use Rattle.zp_model.specs.BlockSet.{block_if, greatest, larger, largest_in, max_blocks, order_of}
use Rattle.zp_plain.proofs.Looking.{greatest_here, largest_of, order_before, range_none}
use Rattle.zp_plain.proofs.block_set.largest_in.Goals as goal

pub pages-init : goal.pages-init
pages-init c =
    let end = c.args.pageblock * c.pageblock_pages-length.result + c.pageblock_pages-length.result in
    record { low = omega arith; within = omega arith; best = rw (range_none end end (omega arith)) refl }

pub pages-preserved : goal.pages-preserved
pages-preserved c =
    let s = max_blocks c.args.largest c.args.free.now in
    let end = c.args.pageblock * c.pageblock_pages-length.result + c.pageblock_pages-length.result in
    let page = c.pages.left - 1 in
    let next : page + 1 ≡ c.pages.left = omega arith in
    record {
      low = omega arith;
      within = omega (arith, c.pages.invariant.within);
      best =
          c.larger-found.ensures
          ∙ ap (λ (o : Option ℕ). larger o c.pages.found) (c.order_before.ensures ∙ ap (λ (o : Option ℕ). order_of (block_if (λ g j. leb (g + 2 ^ j) end) page o)) c.max_block_at-block.ensures)
          ∙ ap (λ (o : Option ℕ). larger (order_before s end page) o) (rw next c.pages.invariant.best)
          ∙ sym (greatest_here s end page (omega (arith, c.pages.invariant.within)));
    }

pub returns : goal.returns
returns c =
    let s = max_blocks c.args.largest c.args.free.now in
    let pages = c.pageblock_pages-length.result in
    let first = c.args.pageblock * pages in
    let e = c.pageblock_pages-length.ensures.pages in
    let at : c.pages.left ≡ first = omega (arith, c.pages.invariant.low) in
    let n : first + pages - first ≡ pages = omega arith in
    let all : c.pages.found ≡ greatest (map (order_before s (first + pages)) (range_with_len first pages)) = rw (at, n) at c.pages.invariant.best in
    all ∙ largest_of s first c.args.largest (first + pages) pages (ap (λ (q : ℕ). first + q) e) e ∙ ap (λ (q : ℕ). largest_in s (c.args.pageblock * q) c.args.largest) e
