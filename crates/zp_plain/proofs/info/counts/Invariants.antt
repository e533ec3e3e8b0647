use Rattle.std.proofs.Common.{ℕ, ◌≡◌, ◌<◌, get_or, length}
use Rattle.zp_model.specs.Info.{blocks_of_order}
use Rattle.zp_plain.proofs.info.counts.Given as goal

abbrev pub invariant-orders : goal.invariant-orders
invariant-orders l = record { orders : length l.by_order ≡ 11; counted : (j : ℕ) → j < l.k → get_or l.by_order j 0 ≡ blocks_of_order l.largest l.free j }
