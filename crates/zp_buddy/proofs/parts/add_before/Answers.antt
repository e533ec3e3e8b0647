use Rattle.std.proofs.Common.{◌-◌, ◌≡◌, ◌∙◌, ap, arith}
use Rattle.zp_model.specs.Runs.{fitting_order}
use Rattle.zp_buddy.proofs.PartsBack.{before_begins, before_goes, before_may}
use Rattle.zp_buddy.proofs.Settled.{length-pages}
use Rattle.zp_buddy.proofs.parts.add_before.Goals.{After-fitting_order-order}
use Rattle.zp_buddy.proofs.parts.add_before.Goals as goal

pub tiles-init : goal.tiles-init
tiles-init c = before_begins c.args.area.now c.args.from c.args.taken c.requires.sound c.requires.may

pub at-head-requires : goal.at-head-requires
at-head-requires c = omega (arith, c.requires.may.clear.inside, length-pages c.args.area.now.rows.states, c.pages-pages.ensures.pages, c.pages-pages.ensures.within)

-- the order is that of the cut's next block
order : (c : After-fitting_order-order) → c.fitting_order-order.result ≡ fitting_order c.args.area.now.largest c.tiles.next (c.args.taken - c.tiles.next)
order c =
    c.fitting_order-order.ensures
    ∙ ap (λ m. fitting_order m c.at-head.result (c.args.taken - c.tiles.next)) c.largest-largest.ensures
    ∙ ap (λ g. fitting_order c.args.area.now.largest g (c.args.taken - c.tiles.next)) c.at-head.ensures

pub add-requires-clause-block : goal.add-requires-clause-block
add-requires-clause-block c =
    rw (c.tiles.invariant.back.largest, order (goal.at.add-requires-clause-block c).After-fitting_order-order, c.at-head.ensures)
    (before_may c.requires.sound c.requires.may c.tiles.invariant (omega arith)).0

pub add-requires-clause-clear : goal.add-requires-clause-clear
add-requires-clause-clear c =
    rw (c.tiles.invariant.back.largest, order (goal.at.add-requires-clause-clear c).After-fitting_order-order, c.at-head.ensures)
    (before_may c.requires.sound c.requires.may c.tiles.invariant (omega arith)).1

pub tiles-preserved : goal.tiles-preserved
tiles-preserved c =
    rw (c.add.ensures.after, c.pages-next.ensures.pages, order (goal.at.tiles-preserved c).After-fitting_order-order, c.at-head.ensures)
    (before_goes c.requires.sound c.requires.may c.tiles.invariant (omega arith) c.tiles.area.largest c.tiles.invariant.back.largest)
