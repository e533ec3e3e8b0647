use Rattle.zp_buddy.proofs.Choosing.{borrow_fronts}
use Rattle.zp_buddy.proofs.choice.borrowed_block.Goals as goal

pub returns : goal.returns
returns c = rw (← borrow_fronts c.args.area.now.largest c.args.area.now c.args.order c.args.kind, ← c.fallbacks.ensures) c.first_front.ensures
