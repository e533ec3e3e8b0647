use Rattle.std.proofs.Common.{◌≤◌, arith}
use Rattle.zp_model.proofs.Cuts.{fitting}
use Rattle.zp_share.proofs.RunUses.{lending_ends, lending_goes}
use Rattle.zp_share.proofs.page_uses.PageUses.lend_cut.Goals.{After-lend_first-lent}
use Rattle.zp_share.proofs.page_uses.PageUses.lend_cut.Goals as goal

-- the block has no page past those that are left
size : (c : After-lend_first-lent) → c.lend_first-lent.result ≤ c.tiles.left
size c =
    let fit = fitting c.args.largest c.tiles.next c.tiles.left (omega (arith, c.tiles-test.true)) in
    rw (c.lend_first-lent.ensures.size, c.at.ensures) fit.inside

pub overflow_add-next : goal.overflow_add-next
overflow_add-next c = omega (arith, size (goal.at.overflow_add-next c).After-lend_first-lent, c.tiles.invariant.lending.upto, c.requires.inside, c.requires.few)

pub overflow_sub-left : goal.overflow_sub-left
overflow_sub-left c = omega (arith, size (goal.at.overflow_sub-left c).After-lend_first-lent)

pub tiles-preserved : goal.tiles-preserved
tiles-preserved c =
    rw (c.lend_first-lent.ensures.after, c.lend_first-lent.ensures.size, c.at.ensures) (record {
      base = c.tiles.invariant.base;
      lending = lending_goes _ _ _ _ _ _ _ _ c.tiles.invariant.lending (omega (arith, c.tiles-test.true)) (rw c.at.ensures at c.lend_first-lent.ensures.order) c.requires.uncached c.requires.inside;
    })

pub returns-clause-lent : goal.returns-clause-lent
returns-clause-lent c = lending_ends _ _ _ _ _ _ c.tiles.next c.tiles.left (omega (arith, c.tiles-test.false)) c.tiles.invariant.lending
