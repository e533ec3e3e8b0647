use Rattle.std.proofs.Common.{ℕ, ◌+◌, ◌-◌, ◌≡◌, ◌≤◌, ◌<◌, false}
use Rattle.zp_model.specs.Block.{head}
use Rattle.zp_share.specs.PageUses.{is_lent_as, use_at}
use Rattle.zp_share.proofs.page_uses.PageUses.lent_order.Given as goal

-- no lent block of an order below `number` has the page
abbrev pub invariant-orders : goal.invariant-orders
invariant-orders l = record {
  most : l.number ≤ 10 + 1;
  none : (k : ℕ) → k < l.number → is_lent_as k (use_at l.self.uses (head l.at k)) ≡ false;
}

abbrev pub decreases-orders : goal.decreases-orders
decreases-orders l = 10 + 1 - l.number
