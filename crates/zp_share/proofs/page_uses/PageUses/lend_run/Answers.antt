use Rattle.std.proofs.Common.{◌-◌, ◌≤◌, arith, subst}
use Rattle.zp_model.specs.Books.{type_of_page}
use Rattle.zp_model.proofs.Cuts.{fitting}
use Rattle.zp_share.specs.PageUses.{IsCutLent}
use Rattle.zp_share.proofs.RunUses.{lending_ends, lending_goes}
use Rattle.zp_share.proofs.page_uses.PageUses.lend_run.Goals.{After-lend_first-lent}
use Rattle.zp_share.proofs.page_uses.PageUses.lend_run.Goals as goal

-- the block has no page past those that are left
size : (c : After-lend_first-lent) → c.lend_first-lent.result ≤ c.tiles.left
size c =
    let fit = fitting c.largest-largest.result c.tiles.next c.tiles.left (omega (arith, c.tiles-test.true)) in
    rw (c.lend_first-lent.ensures.size, c.at-at.ensures) fit.inside

pub overflow_add-next : goal.overflow_add-next
overflow_add-next c =
    omega (arith, size (goal.at.overflow_add-next c).After-lend_first-lent, c.tiles.invariant.lending.upto, c.requires.run.inside, c.requires.zone, c.pages-pages.ensures.pages, c.pages-pages.ensures.within)

pub overflow_sub-left : goal.overflow_sub-left
overflow_sub-left c = omega (arith, size (goal.at.overflow_sub-left c).After-lend_first-lent)

pub tiles-preserved : goal.tiles-preserved
tiles-preserved c =
    rw (c.lend_first-lent.ensures.after, c.lend_first-lent.ensures.size, c.noted_type-kind.ensures, c.at-at.ensures) (record {
      base = c.tiles.invariant.base;
      lending = lending_goes _ _ _ _ _ _ _ _ c.tiles.invariant.lending (omega (arith, c.tiles-test.true)) (rw c.at-at.ensures at c.lend_first-lent.ensures.order) c.requires.run.uncached c.requires.run.inside;
    })

pub returns-clause-lent : goal.returns-clause-lent
returns-clause-lent c =
    subst (λ m. IsCutLent m (type_of_page c.args.zone.now.plain) c.args.self.now.uses c.tiles.self.uses (c.args.page - c.args.self.now.base) c.args.pages) c.largest-largest.ensures
    (lending_ends _ _ _ _ _ _ c.tiles.next c.tiles.left (omega (arith, c.tiles-test.false)) c.tiles.invariant.lending)
