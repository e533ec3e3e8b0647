use Rattle.std.proofs.Common.{ℕ, ◌≡◌, ◌<◌, Some}
use Rattle.zp_links.specs.Linked.{ends_at}
use Rattle.zp_links.proofs.ends.is_front.Given as goal

abbrev pub invariant-loop-end : goal.invariant-loop-end
invariant-loop-end l = (r : ℕ) → r < l.end-index → (ends_at l.ends r).first ≡ Some l.at → ⊥
