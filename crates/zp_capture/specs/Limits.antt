-- Which zone a request asks first, and how many workers there are (this profile).
use Rattle.std.specs.Prelude.{ℕ, zero, suc, ◌≡◌, ◌≢◌, ◌<◌, ◌⊎◌, List, length, min, slice_index_or, Option, None, Some, codes, ⊤}
use Rattle.zp_events.specs.declared.event.ZoneLimit.{ZoneLimit}
use Rattle.zp_events.specs.declared.event.ZoneLimit.TheVariants as limit
use Rattle.zp_kernel.specs.declared.setting.Limits.{Limits}
use Rattle.zp_kernel.specs.Settings.{top_of}
use Rattle.zp_model.specs.declared.constants.TheConstants.{MAX_WORKERS}
use Rattle.zp_capture.specs.declared.plan.ZonePlan.{ZonePlan}

-- a limit allows zones of this name: Movable is for what can be moved alone
abbrev pub Allows : ZoneLimit → List ℕ → Type 0
Allows limit.Dma name = name ≡ codes "DMA"
Allows limit.Dma32 name = (name ≡ codes "DMA") ⊎ (name ≡ codes "DMA32")
Allows limit.Normal name = name ≢ codes "Movable"
Allows limit.Movable name = ⊤

abbrev pub AllowsAt : ZoneLimit → List ZonePlan → ℕ → Type 0
AllowsAt l plans k = (d : ZonePlan) → Allows l (slice_index_or plans k d).name

-- the highest zone that the limit allows has this place; where it allows none, it is the lowest
pub record IsHighest (l : ZoneLimit) (plans : List ZonePlan) (place : ℕ) : Type 0 where
  pub there : place < length plans
  pub allowed : AllowsAt l plans place ⊎ (place ≡ 0)
  pub above : (k : ℕ) (d : ZonePlan) → place < k → k < length plans → Allows l (slice_index_or plans k d).name → ⊥

-- each limit's is the highest that it allows
abbrev pub AreLimitsOf : List ZonePlan → Limits → Type 0
AreLimitsOf plans l = (limit : ZoneLimit) → IsHighest limit plans (top_of l limit)

-- one worker a CPU, and no more than a zone has; as many as it has where no CPU is told
abbrev pub workers_for : ℕ → ℕ
workers_for zero = MAX_WORKERS
workers_for (suc n) = min (suc n) MAX_WORKERS

-- of the CPUs that are named, or else of those that are told
abbrev pub workers_of : Option ℕ → ℕ → ℕ
workers_of (Some n) told = workers_for n
workers_of None told = workers_for told
