use Rattle.std.proofs.Common.{◌+◌, ◌-◌, ◌*◌, ◌^◌, ◌≡◌, ◌∙◌, inl, inr, ap, arith, length, sym}
use Rattle.std.proofs.lemmas.Bool.{cases_lt}
use Rattle.zp_area.specs.NotedBlocks.{blocks_of}
use Rattle.zp_area.proofs.Keeping.{blocks_length}
use Rattle.zp_area.proofs.LargestSeen.{largest_all, largest_one, largest_outside, largest_past}
use Rattle.zp_area.proofs.available.largest_seen.Goals as goal

pub overflow_mul-first : goal.overflow_mul-first
overflow_mul-first c = omega (arith, ap (λ q. c.args.pageblock * q) c.pageblock_pages-size.ensures.pages, c.requires.inside, c.pages-pages.ensures.within)

pub pages-init : goal.pages-init
pages-init c =
    let starts-at = ap (λ q. c.args.pageblock * q) c.pageblock_pages-size.ensures.pages in
    let len = blocks_length c.args.lists.now.states in
    record {
      from = omega (arith, starts-at, c.requires.inside);
      upto = omega (arith, starts-at, c.pageblock_pages-size.ensures.pages);
      page = omega arith;
      most = elim (cases_lt c.min-i.result (length c.args.lists.now.states)) [
        | inl lt ↦ sym (largest_past c.args.largest c.args.pageblock (blocks_of c.args.lists.now.states) c.requires.blocks c.min-i.result (omega (arith, starts-at, c.pageblock_pages-size.ensures.pages)))
        | inr ge ↦ sym (largest_outside c.args.largest c.args.pageblock (blocks_of c.args.lists.now.states) c.requires.blocks c.min-i.result (omega (arith, len)))
      ];
    }

pub pages-preserved : goal.pages-preserved
pages-preserved c =
    let starts-at = ap (λ q. c.args.pageblock * q) c.pageblock_pages-size.ensures.pages in
    let back : c.pages.i - 1 + 1 ≡ c.pages.i = omega arith in
    record {
      from = omega (arith, starts-at);
      upto = omega (arith, c.pages.invariant.upto);
      page = omega (arith, c.pages.invariant.page);
      most =
          rw (c.larger_at-found.ensures, c.at.ensures, c.pages.invariant.most)
          (rw back at (largest_one c.args.largest c.args.pageblock (blocks_of c.args.lists.now.states) c.requires.blocks (c.pages.i - 1) (omega (arith, starts-at)) (omega (arith, c.pages.invariant.upto))));
    }

pub returns : goal.returns
returns c =
    let starts-at = ap (λ q. c.args.pageblock * q) c.pageblock_pages-size.ensures.pages in
    let last : c.pages.i ≡ c.args.pageblock * 2 ^ c.args.largest = omega (arith, starts-at, c.pages.invariant.from) in
    (rw last at c.pages.invariant.most) ∙ largest_all c.args.largest c.args.pageblock (blocks_of c.args.lists.now.states) c.requires.blocks
