use Rattle.std.proofs.Common.{◌^◌, ◌≡◌, ◌≤◌, ◌∙◌, ap, refl, arith}
use Rattle.std.proofs.lemmas.Nat.{pow_pos}
use Rattle.zp_model.specs.Area.{kind_at}
use Rattle.zp_model.specs.PageblockType.{noted_type}
use Rattle.zp_model.specs.Runs.{fitting_order}
use Rattle.zp_zone.proofs.RunsNoted.{note_size, note_unfree, noting_begins, noting_ends, noting_goes}
use Rattle.zp_zone.proofs.untied_zone.cuts.note_taken.Goals.{After-fitting_order-order}
use Rattle.zp_zone.proofs.untied_zone.cuts.note_taken.Goals as goal

pub tiles-init : goal.tiles-init
tiles-init c = noting_begins c.args.buddy.now c.args.worker (λ g. noted_type (kind_at c.args.buddy.now.area.largest c.args.buddy.now.area.kinds g)) c.args.from c.args.pages c.requires.clear c.requires.beside

pub at-head-requires : goal.at-head-requires
at-head-requires c = omega (arith, c.tiles.invariant.clear.inside, c.pages-pages.ensures.framed.pages, c.pages-pages.ensures.pages, c.pages-pages.ensures.within)

-- the order is that of the cut's next block
order : (c : After-fitting_order-order) → c.fitting_order-order.result ≡ fitting_order c.args.buddy.now.area.largest c.tiles.next c.tiles.left
order c = rw (← c.largest-largest.ensures, ← c.at-head.ensures) c.fitting_order-order.ensures

size : (c : After-fitting_order-order) → 2 ^ c.fitting_order-order.result ≤ c.tiles.left
size c = rw (order c) (note_size c.tiles.invariant (omega arith))

pub hold-requires-clause-page : goal.hold-requires-clause-page
hold-requires-clause-page c =
    omega (arith, c.at-head.ensures, c.tiles.invariant.clear.inside, c.tiles.invariant.pages, c.pages-pages.ensures.framed.pages)

pub hold-requires-clause-used : goal.hold-requires-clause-used
hold-requires-clause-used c = rw c.at-head.ensures (note_unfree c.tiles.invariant (omega arith))

pub overflow_add-next : goal.overflow_add-next
overflow_add-next c =
    omega (arith, size (goal.at.overflow_add-next c).After-fitting_order-order, c.pages-noted.ensures.pages, c.tiles.invariant.clear.inside, c.pages-pages.ensures.framed.pages, c.pages-pages.ensures.pages, c.pages-pages.ensures.within)

pub overflow_sub-left : goal.overflow_sub-left
overflow_sub-left c = omega (arith, size (goal.at.overflow_sub-left c).After-fitting_order-order, c.pages-noted.ensures.pages)

pub tiles-preserved : goal.tiles-preserved
tiles-preserved c =
    let e = order (goal.at.tiles-preserved c).After-fitting_order-order in
    let area : c.tiles.buddy.area ≡ c.args.buddy.now.area = c.tiles.invariant.area in
    let kind : c.noted-kind.result ≡ noted_type (kind_at c.args.buddy.now.area.largest c.args.buddy.now.area.kinds c.tiles.next) =
    c.noted-kind.ensures ∙ ap noted_type (c.type_of.ensures ∙ rw (area, c.at-head.ensures) refl) in
    rw (c.hold.ensures.after, c.pages-noted.ensures.pages, e, kind, c.at-head.ensures) (noting_goes c.tiles.invariant (omega arith))

pub tiles-smaller : goal.tiles-smaller
tiles-smaller c = omega (arith, c.pages-noted.ensures.pages, pow_pos c.fitting_order-order.result)

pub returns : goal.returns
returns c =
    let none : c.tiles.left ≡ 0 = omega arith in
    noting_ends c.args.buddy.now c.tiles.buddy c.args.worker (λ g. noted_type (kind_at c.args.buddy.now.area.largest c.args.buddy.now.area.kinds g)) c.args.from c.args.pages c.tiles.next c.tiles.left none c.tiles.invariant
