use Rattle.std.proofs.Common.{ℕ, ◌<◌, ◌≤◌, get_or, length}
use Rattle.zp_capture.specs.declared.plan.ZonePlan.{ZonePlan}
use Rattle.zp_capture.specs.Limits.{Allows}
use Rattle.zp_capture.proofs.machine.highest_allowed.Given as goal

-- no zone at the place or above is allowed
abbrev pub invariant-plans : goal.invariant-plans
invariant-plans l =
    record {
      within : l.place ≤ length l.plans;
      above : (k : ℕ) (d : ZonePlan) → l.place ≤ k → k < length l.plans → Allows l.limit (get_or l.plans k d).name → ⊥;
    }

abbrev pub decreases-plans : goal.decreases-plans
decreases-plans l = l.place
