use Rattle.std.proofs.Common.{◌+◌, ◌-◌, ◌≡◌, ◌≤◌, ◌∙◌, ap, refl, sym, arith, length, true}
use Rattle.zp_model.specs.Runs.{may_free_run}
use Rattle.zp_share.specs.PageUses.{AreUncached, AreWholeBlocks}
use Rattle.zp_share.proofs.RunUses.{next_lent, pages_out, run_lent, run_parts, run_uncached, uses_begin, uses_go, whole_blocks}
use Rattle.zp_share.proofs.page_uses.PageUses.free_run.Goals.{After-number}
use Rattle.zp_share.proofs.page_uses.PageUses.free_run.Goals as goal

pub overflow_sub-next : goal.overflow_sub-next
overflow_sub-next c =
    let r = run_parts c.args.self.now.base c.args.page c.args.pages c.args.self.now.uses c.requires.lent in
    omega (arith, r.0, ap (λ u. u.base) c.self.view_is, c.number.ensures.same)

-- as many pages as the zone has
few : (c : After-number) → length c.args.self.now.uses ≡ c.pages-pages.result
few c =
    pages_out c.args.zone.now.plain c.args.worker c.args.self.now.uses c.requires.held ∙ c.pages-pages.ensures.lawful.places ∙ sym c.pages-pages.ensures.pages

-- where the run ends
ends : (c : After-number) → c.args.page - c.args.self.now.base + c.args.pages ≤ c.pages-pages.result
ends c = let r = run_parts c.args.self.now.base c.args.page c.args.pages c.args.self.now.uses c.requires.lent in omega (arith, r.2, few c)

pub overflow_add-end : goal.overflow_add-end
overflow_add-end c =
    let now = (goal.at.overflow_add-end c).After-number in
    omega (arith, ends now, ap (λ u. u.base) c.self.view_is, c.number.ensures.same, c.pages-pages.ensures.within)

pub parts-init : goal.parts-init
parts-init c =
    let may : may_free_run c.args.zone.now.plain c.args.worker c.args.page c.args.pages ≡ true =
    run_lent c.args.zone.now.plain c.args.worker c.args.page c.args.pages c.args.self.now.base c.args.self.now.uses c.requires.held c.pages-pages.ensures.lawful c.requires.base c.requires.lent in
    record {
      base = refl;
      from = omega (arith, ap (λ u. u.base) c.self.view_is, c.number.ensures.same);
      freeing = uses_begin c.args.zone.now.plain c.args.worker c.args.page c.args.pages _ _ c.args.self.now.uses c.pages-pages.ensures.lawful c.requires.held may
          (omega (arith, ap (λ u. u.base) c.self.view_is, c.number.ensures.same, c.requires.base)) refl;
    }

pub free_in_block-freed-requires-clause-inside : goal.free_in_block-freed-requires-clause-inside
free_in_block-freed-requires-clause-inside c =
    let now = (goal.at.free_in_block-freed-requires-clause-inside c).After-number in
    omega (arith, c.parts-test.true, ends now, few now, c.parts.invariant.freeing.pages, ap (λ u. u.base) c.self.view_is, c.number.ensures.same)

pub free_in_block-freed-requires-clause-whole : goal.free_in_block-freed-requires-clause-whole
free_in_block-freed-requires-clause-whole c =
    let x = c.parts.invariant.freeing in whole_blocks x.now c.args.worker c.parts.self.uses x.out x.lawful

pub free_in_block-freed-requires-clause-lent : goal.free_in_block-freed-requires-clause-lent
free_in_block-freed-requires-clause-lent c =
    let r = run_parts c.args.self.now.base c.args.page c.args.pages c.args.self.now.uses c.requires.lent in
    let whole : AreWholeBlocks c.args.self.now.uses = whole_blocks c.args.zone.now.plain c.args.worker c.args.self.now.uses c.requires.held c.pages-pages.ensures.lawful in
    let out : AreUncached c.args.self.now.uses (c.args.page - c.args.self.now.base) c.args.pages = run_uncached c.args.self.now.uses _ _ whole r.3 in
    next_lent c.args.zone.now.plain c.args.worker _ _ c.parts.next _ c.args.self.now.uses c.parts.self.uses (omega (arith, c.number-largest.ensures.same, c.number-largest.ensures.within.1, c.largest-largest.ensures)) (λ q g lo hi.
    out q g (omega (arith, lo, c.parts.invariant.from)) (omega (arith, hi, c.parts-test.true, ap (λ u. u.base) c.self.view_is, c.number.ensures.same)))
    (omega (arith, c.parts-test.true)) c.parts.invariant.freeing

pub overflow_add-next : goal.overflow_add-next
overflow_add-next c =
    let now = (goal.at.overflow_add-next c).After-number in
    omega (arith, c.free_in_block-freed.ensures.freed.most, ends now, c.parts-test.true, ap (λ u. u.base) c.self.view_is, c.number.ensures.same, c.pages-pages.ensures.within)

pub parts-preserved : goal.parts-preserved
parts-preserved c = record {
  base = c.free_in_block-freed.ensures.base ∙ c.parts.invariant.base;
  from = omega (arith, c.parts.invariant.from);
  freeing = uses_go c.args.zone.now.plain c.args.worker _ _ c.parts.next _ c.largest-largest.result c.free_in_block-freed.result c.args.self.now.uses c.parts.self.uses c.free_in_block-freed.new.self.uses
      c.requires.known c.largest-largest.ensures (omega (arith, c.parts-test.true)) c.parts.invariant.freeing c.free_in_block-freed.ensures.freed;
}
