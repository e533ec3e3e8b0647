use Rattle.std.proofs.Common.{ℕ, ◌≡◌, ◌<◌, ◌==◌}
use Rattle.std.specs.List.{count_by}
use Rattle.zp_share.specs.Shares.{ShareState}
use Rattle.zp_gate.proofs.gated_zone.is_crew.Given as goal

abbrev pub invariant-loop-number : goal.invariant-loop-number
invariant-loop-number l = (w : ℕ) → w < l.number → count_by (λ (s : ShareState). s.worker == w) l.shares ≡ 1
