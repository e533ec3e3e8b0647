use Rattle.std.proofs.Common.{◌^◌, ◌≡◌, ◌≤◌, arith}
use Rattle.std.proofs.lemmas.Nat.{pow_pos}
use Rattle.zp_model.specs.Runs.{fitting_order}
use Rattle.zp_zone.proofs.RunsFreed.{give_clear, give_size, giving_begins, giving_ends, giving_goes}
use Rattle.zp_zone.proofs.untied_zone.cuts.give_cut.Goals.{After-fitting_order-order}
use Rattle.zp_zone.proofs.untied_zone.cuts.give_cut.Goals as goal

pub tiles-init : goal.tiles-init
tiles-init c = giving_begins c.args.buddy.now c.args.from c.args.pages c.requires.clear c.requires.listed c.requires.beside c.requires.unheld c.requires.here

pub at-head-requires : goal.at-head-requires
at-head-requires c = omega (arith, c.tiles.invariant.clear.inside, c.pages-framed.ensures.framed.pages, c.pages-framed.ensures.pages, c.pages-framed.ensures.within)

-- the order is that of the cut's next block
order : (c : After-fitting_order-order) → c.fitting_order-order.result ≡ fitting_order c.args.buddy.now.area.largest c.tiles.next c.tiles.left
order c = rw (← c.largest-largest.ensures, ← c.at-head.ensures) c.fitting_order-order.ensures

size : (c : After-fitting_order-order) → 2 ^ c.fitting_order-order.result ≤ c.tiles.left
size c = rw (order c) (give_size c.tiles.invariant (omega arith))

pub give-requires : goal.give-requires
give-requires c = rw (order (goal.at.give-requires c).After-fitting_order-order, c.at-head.ensures) (give_clear c.tiles.invariant (omega arith))

pub overflow_add-next : goal.overflow_add-next
overflow_add-next c =
    omega (arith, size (goal.at.overflow_add-next c).After-fitting_order-order, c.pages-given.ensures.pages, c.tiles.invariant.clear.inside, c.pages-framed.ensures.framed.pages, c.pages-framed.ensures.pages, c.pages-framed.ensures.within)

pub overflow_sub-left : goal.overflow_sub-left
overflow_sub-left c = omega (arith, size (goal.at.overflow_sub-left c).After-fitting_order-order, c.pages-given.ensures.pages)

pub tiles-preserved : goal.tiles-preserved
tiles-preserved c =
    let e = order (goal.at.tiles-preserved c).After-fitting_order-order in
    rw (c.give.ensures, c.pages-given.ensures.pages, e, c.at-head.ensures) (giving_goes c.tiles.invariant (omega arith) c.pages-framed.ensures.framed)

pub tiles-smaller : goal.tiles-smaller
tiles-smaller c = omega (arith, c.pages-given.ensures.pages, pow_pos c.fitting_order-order.result)

pub returns : goal.returns
returns c =
    let none : c.tiles.left ≡ 0 = omega arith in
    giving_ends c.args.buddy.now c.tiles.buddy c.args.from c.args.pages c.tiles.next c.tiles.left none c.tiles.invariant
