use Rattle.std.proofs.Common.{◌+◌, ◌-◌, arith}
use Rattle.zp_model.proofs.FirstFound.{first_none, first_some}
use Rattle.zp_buddy.proofs.choice.first_front.Goals as goal

pub returns-in-Some : goal.returns-in-Some
returns-in-Some c =
    let i = c.orders.invariant in
    let x = c.in-Some.ensures in
    let e = c.at.ensures in (
      first_some _ c.args.order (c.args.area.now.largest + 1 - c.args.order) c.orders.number c.in-Some.block.head i.from (omega arith) (rw e at x.0) i.none,
      record { enough = omega (arith, x.1.enough); starts = x.1.starts; typed = x.1.typed },
    )

pub returns : goal.returns
returns c = first_none _ c.args.order (c.args.area.now.largest + 1 - c.args.order) (λ o p q. c.orders.invariant.none o p (omega arith))
