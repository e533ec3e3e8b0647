use Rattle.std.proofs.Common.{◌≡◌, ◌<◌, true, false, inl, inr, sym, ◌∙◌, arith}
use Rattle.std.proofs.lemmas.Bool.{cases_lt, not-false, not-true}
use Rattle.zp_model.specs.Zone.{pages_of}
use Rattle.zp_zone.specs.Lowest.{IsPassedFor}
use Rattle.zp_zone.proofs.LowestRuns.{IsSearching, may_alloc_run-to, none_fits, search_ends, search_finds, search_leaves, search_skips}
use Rattle.zp_zone.proofs.untied_zone.UntiedZone.lowest_run.Goals.{After-at, After-pages, After-pages_at-passed}
use Rattle.zp_zone.proofs.untied_zone.UntiedZone.lowest_run.Goals as goal

-- the buddy allocator has the zone's pages
size : (c : After-pages) → c.pages.result ≡ pages_of c.args.self.now.plain
size c = rw (← c.self.view_is) (c.pages.ensures.pages ∙ sym c.pages.ensures.framed.pages)

-- there are too few of them
pub returns-in_err-last : goal.returns-in_err-last
returns-in_err-last c =
    let few : c.pages.result < c.args.pages = elim (cases_lt c.pages.result c.args.pages) [ inl lt ↦ lt | inr le ↦ absurd (c.in_err-last.ensures le) ] in
    c.from_residual.ensures ∙ sym (none_fits c.args.self.now.plain c.args.pages c.args.align (omega (arith, size (goal.at.returns-in_err-last c).After-pages)))

-- the pages before `next` have been passed, after it has gone on to `start`
skipped : (c : After-at) → IsSearching c.args.self.now.plain c.args.pages c.args.align c.passes.start c.max-next.result
skipped c =
    search_skips c.args.self.now.plain c.args.pages c.args.align c.passes.invariant c.max-next.result (may_alloc_run-to c.args.pages c.args.align c.requires).0
    (omega (arith, size (goal.at.After-at c).After-pages, c.in_ok-last.ensures, c.passes-test.true)) c.max-next.ensures

-- the pages from there on
passed : (c : After-pages_at-passed) → IsPassedFor c.args.self.now.plain c.args.pages c.args.align c.passes.start c.max-next.result c.pages_at-passed.result.count c.pages_at-passed.result.serve
passed c = rw c.at.ensures at c.pages_at-passed.ensures

pub passes-preserved-then-not-passed : goal.passes-preserved-then-not-passed
passes-preserved-then-not-passed c =
    let now = (goal.at.passes-preserved-then-not-passed c).After-pages_at-passed in
    let out : c.pages_at-passed.result.serve ≡ false = not-true _ c.if-not-passed.true in
    search_leaves c.args.self.now.plain c.args.pages c.args.align (skipped (goal.at.After-pages_at-passed now).After-at) c.next_start-start-then-not-passed.result (may_alloc_run-to c.args.pages c.args.align c.requires).0
    (rw out at (passed now)) c.next_start-start-then-not-passed.ensures

pub returns-then-next-start : goal.returns-then-next-start
returns-then-next-start c =
    let now = (goal.at.returns-then-next-start c).After-pages_at-passed in
    let on : c.pages_at-passed.result.serve ≡ true = not-false _ c.if-not-passed.false in
    rw c.at-then-next-start.ensures
    (sym (search_finds c.args.self.now.plain c.args.pages c.args.align (skipped (goal.at.After-pages_at-passed now).After-at) (rw on at (passed now)) c.if-next-start.true))

pub returns : goal.returns
returns c =
    sym (search_ends c.args.self.now.plain c.args.pages c.args.align c.passes.invariant (omega (arith, size (goal.at.returns c).After-pages, c.in_ok-last.ensures, c.passes-test.false)))
