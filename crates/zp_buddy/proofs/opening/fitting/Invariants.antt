use Rattle.std.proofs.Common.{◌≤◌, ◌<◌, ◌+◌, ◌^◌}
use Rattle.zp_buddy.proofs.opening.fitting.Given as goal

abbrev pub invariant-orders : goal.invariant-orders
invariant-orders l = (l.order ≤ l.fn.most) × (l.order < l.fn.most → l.pages < 2 ^ (l.order + 1))

abbrev pub decreases-orders : goal.decreases-orders
decreases-orders l = l.order
