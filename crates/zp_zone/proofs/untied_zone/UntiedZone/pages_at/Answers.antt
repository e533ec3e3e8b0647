use Rattle.std.proofs.Common.{◌≡◌, ◌<◌, arith}
use Rattle.zp_model.specs.declared.constants.TheConstants.{LARGEST_ORDER}
use Rattle.zp_zone.specs.Kept.{plain_of}
use Rattle.zp_zone.proofs.LowestRuns.{group_passed, may_alloc_run-to, passed_for, whole_passed}
use Rattle.zp_zone.proofs.untied_zone.UntiedZone.pages_at.Goals as goal

pub overflow_add-end : goal.overflow_add-end
overflow_add-end c = omega (arith, c.requires.inside, c.pages-pages.ensures.pages, c.pages-pages.ensures.within)

pub returns-then-whole-next : goal.returns-then-whole-next
returns-then-whole-next c =
    let lt : c.args.at < c.whole_until-whole.result = omega (arith, c.if-whole-next.true, c.number-next.ensures.same) in
    rw (c.number-next.ensures.same, ← c.self.view_is)
    (whole_passed (plain_of c.self.inside.buddy c.self.inside.base c.self.inside.min) c.args.pages c.args.align c.args.start c.args.at c.whole_until-whole.result lt
    (omega (arith, c.whole_until-whole.ensures.to, rw (← c.self.view_is) at c.requires.inside)) (rw c.number-next.ensures.same at c.whole_until-whole.ensures.pages))

pub returns-then-first_multiple-next-ge-LARGEST_BLOCK_PAGES : goal.returns-then-first_multiple-next-ge-LARGEST_BLOCK_PAGES
returns-then-first_multiple-next-ge-LARGEST_BLOCK_PAGES c =
    let top : c.self.inside.buddy.area.largest ≡ LARGEST_ORDER = omega (arith, c.number-largest.ensures.same, c.if-largest-eq-LARGEST_ORDER.true, rw (← c.self.view_is) at c.largest.ensures) in
    let stopped : c.whole_until-whole.result ≡ c.number-next.result = omega (arith, c.whole_until-whole.ensures.from, c.if-whole-next.false) in
    let far = c.if-end-next-ge-LARGEST_BLOCK_PAGES.true in
    rw (← c.number-next.ensures.same, ← c.self.view_is)
    (group_passed (plain_of c.self.inside.buddy c.self.inside.base c.self.inside.min) c.args.pages c.args.align c.args.start c.number-next.result c.first_multiple.result
    (omega (arith, far)) (rw (← c.self.view_is) at c.requires.inside) c.first_multiple.ensures c.if-first_multiple-next-ge-LARGEST_BLOCK_PAGES.true
    ((rw stopped at c.whole_until-whole.ensures.stops) top c.if-next-eq0.true (omega (arith, far))))

pub returns : goal.returns
returns c = passed_for c.args.self.now.plain c.args.pages c.args.align c.args.start c.args.at (may_alloc_run-to c.args.pages c.args.align c.requires.may).0 c.requires.order c.blocks_at.ensures
