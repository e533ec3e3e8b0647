-- Ranks, which the nodes hold: 0 for no block, else one more than the largest order (this profile).
use Rattle.std.specs.Prelude.{ℕ, zero, suc, Option, None, Some}

-- the order that a rank stands for
abbrev pub order_ranked : ℕ → Option ℕ
order_ranked zero = None
order_ranked (suc k) = Some k
