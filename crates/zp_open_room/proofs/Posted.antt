-- What is posted stays at each request for a block, a run or a pageblock.
use Rattle.std.proofs.Common.{ℕ, ◌-◌, ◌≡◌, refl}
use Rattle.std.specs.Prelude.{slice_get}
use Rattle.zp_model.specs.declared.mark.Mark.{Mark}
use Rattle.zp_model.specs.declared.migrate_type.MigrateType.{MigrateType}
use Rattle.zp_model.specs.declared.request.Request.{Request}
use Rattle.zp_model.specs.Step.{step}
use Rattle.zp_model.specs.Zone.{PlainZone}
use Rattle.zp_laws.proofs.KeepingRuns.{freed_run_rest, run_taken_rest}
use Rattle.zp_laws.proofs.Outcomes.{alloc_by, isolated_by, low_by, released_by}
use Rattle.zp_laws.proofs.RunSteps.{alloc_run_at_by, alloc_run_by}

pub alloc_posted : (z : PlainZone) (w k : ℕ) (t : MigrateType) (m : Mark) → (step z w (Request.Alloc k t m)).zone.posted ≡ z.posted
alloc_posted z w k t m = alloc_by (λ o. o.zone.posted ≡ z.posted) z w k t m (λ r. refl) (λ c e. refl)

pub alloc_low_posted : (z : PlainZone) (w k : ℕ) → (step z w (Request.AllocLow k)).zone.posted ≡ z.posted
alloc_low_posted z w k = low_by (λ o. o.zone.posted ≡ z.posted) z w k refl (λ h e. refl)

pub alloc_run_posted : (z : PlainZone) (w n a : ℕ) (m : Mark) → (step z w (Request.AllocRun n a m)).zone.posted ≡ z.posted
alloc_run_posted z w n a m = alloc_run_by (λ o. o.zone.posted ≡ z.posted) z w n a m (λ r. refl) (λ h x. (run_taken_rest z w h n).posted)

pub alloc_run_at_posted : (z : PlainZone) (w p n : ℕ) → (step z w (Request.AllocRunAt p n)).zone.posted ≡ z.posted
alloc_run_at_posted z w p n = alloc_run_at_by (λ o. o.zone.posted ≡ z.posted) z w p n (λ r. refl) (λ le x. (run_taken_rest z w (p - z.base) n).posted)

pub free_run_posted : (z : PlainZone) (w p n : ℕ) → (step z w (Request.FreeRun p n)).zone.posted ≡ z.posted
free_run_posted z w p n = (freed_run_rest z w (p - z.base) n).posted

pub isolate_posted : (z : PlainZone) (w b : ℕ) → (step z w (Request.Isolate b)).zone.posted ≡ z.posted
isolate_posted z w b = isolated_by (λ o. o.zone.posted ≡ z.posted) z b (slice_get z.area.kinds b) (λ r. refl) refl

pub release_posted : (z : PlainZone) (w b : ℕ) (t : MigrateType) → (step z w (Request.Release b t)).zone.posted ≡ z.posted
release_posted z w b t = released_by (λ o. o.zone.posted ≡ z.posted) z b t (slice_get z.area.kinds b) (λ r. refl) refl
