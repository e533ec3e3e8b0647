use Rattle.std.proofs.Common.{◌+◌, ◌-◌, ◌≤◌, ◌≡◌, ◌∙◌, ap, sym, Some, arith}
use Rattle.zp_model.specs.Rows.{front, list_at}
use Rattle.zp_model.proofs.FirstFound.{first_none, first_some}
use Rattle.zp_area.specs.Blocks.{free_list_of}
use Rattle.zp_area.specs.KeptSets.{set_of}
use Rattle.zp_area.proofs.Claimable.{list_within}
use Rattle.zp_area.proofs.area.FreeArea.first_block.Goals.{After-at}
use Rattle.zp_area.proofs.area.FreeArea.first_block.Goals as goal

pub orders-init : goal.orders-init
orders-init c = record { from = omega (arith, c.number-number.ensures.same); most = omega (arith, c.number-number.ensures.within); here = rw c.number-number.ensures.same c.list_of-list.ensures.number; none = λ o p q. absurd (omega (arith, c.number-number.ensures.same)) }

-- the list that is looked at is that of its order
found : (c : After-at) → front (free_list_of c.self.inside.blocks.largest (set_of c.self.inside.blocks) c.orders.number c.args.kind) ≡ Some c.in-Some.head
found c =
    let within : c.orders.number ≤ c.self.inside.blocks.largest = omega (arith, c.orders-test.true, c.number-largest.ensures.same) in
    ap front (list_within c.self.inside.blocks.largest (set_of c.self.inside.blocks) c.self.invariant.kept.one c.orders.number c.args.kind within)
    ∙ ap (λ r. front (list_at c.self.inside.blocks.lists.lists r)) (sym c.orders.invariant.here) ∙ sym c.front.ensures.answer ∙ c.in-Some.is

pub returns-in-Some-clause-some : goal.returns-in-Some-clause-some
returns-in-Some-clause-some c =
    let i = c.orders.invariant in
    let e = found (goal.at.returns-in-Some-clause-some c).After-at in
    let none = rw (← c.self.view_is) at i.none in
    rw (← c.self.view_is) (first_some _ c.args.order (c.self.inside.blocks.largest + 1 - c.args.order) c.orders.number c.in-Some.head i.from (omega (arith, c.orders-test.true, c.number-largest.ensures.same)) e none)

pub returns-clause-none : goal.returns-clause-none
returns-clause-none c =
    let none = rw (← c.self.view_is) at c.orders.invariant.none in
    rw (← c.self.view_is) (first_none _ c.args.order (c.self.inside.blocks.largest + 1 - c.args.order) (λ o p q. none o p (omega (arith, c.orders-test.false, c.number-largest.ensures.same))))
