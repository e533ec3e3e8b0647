use Rattle.std.proofs.Common.{ℕ, ◌≤◌, ◌<◌, ◌+◌, ◌^◌, ◌-◌}
use Rattle.zp_model.specs.Block.{head}
use Rattle.zp_buddy.proofs.cut.covering_order.Given as goal

-- no run that is smaller has the pages
abbrev pub invariant-orders : goal.invariant-orders
invariant-orders l = (l.order ≤ l.fn.most) × ((k : ℕ) → k < l.order → head l.fn.at k + 2 ^ k < l.fn.at + l.fn.pages)

abbrev pub decreases-orders : goal.decreases-orders
decreases-orders l = l.fn.most - l.order
