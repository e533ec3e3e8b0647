use Rattle.std.proofs.Common.{ℕ, ◌<◌}
use Rattle.zp_capture.specs.Plans.{IsRisingAt}
use Rattle.zp_capture.proofs.planning.first_fallen.Given as goal

-- the zones so far rise
abbrev pub invariant-plans : goal.invariant-plans
invariant-plans l = (k : ℕ) → k < l.place → IsRisingAt l.plans k
