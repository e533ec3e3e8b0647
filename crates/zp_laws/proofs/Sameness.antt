-- What no request changes of a zone: its largest order, its size, its base, its least mark and the number of its workers.
use Rattle.std.proofs.Common.{ℕ, ◌-◌, refl, ◌∙◌, ap, List, [], ◌∷◌, ◌++◌, length, Option, Some, None}
use Rattle.std.specs.Prelude.{slice_get}
use Rattle.std.proofs.lemmas.List.{length-set}
use Rattle.zp_model.specs.declared.migrate_type.MigrateType.{MigrateType}
use Rattle.zp_model.specs.declared.pageblock_type.PageblockType.{PageblockType}
use Rattle.zp_model.specs.declared.pageblock_type.PageblockType.TheVariants.{Isolate}
use Rattle.zp_model.specs.declared.request.Request.{Request}
use Rattle.zp_model.specs.Choose.{Chosen}
use Rattle.zp_model.specs.PageblockType.{pageblock_type}
use Rattle.zp_model.specs.Zone.{PlainZone, Holding, holding_at, posted_to}
use Rattle.zp_model.specs.Step.{alloc_chosen, freed, handed_on, drained, with_kind, step}
use Rattle.zp_model.proofs.Covers.{length-without, length-with}
use Rattle.zp_laws.specs.FreePages.{IsSameZone}
use Rattle.zp_laws.proofs.Areas.{free-taken, free-leave, free-give, free-retype, largest-taken, largest-leave, largest-give, largest-retype}
use Rattle.zp_laws.proofs.RunSteps.{alloc_run_by, alloc_run_at_by, run_freed-same, run_taken-same}
use Rattle.zp_laws.proofs.Outcomes.{alloc_by, low_by, collected_by, isolated_by, released_by, refill_by}

same : (z : PlainZone) → IsSameZone z z
same z = record { largest = refl; pages = refl; base = refl; min = refl; workers = refl }

same_next : (x y z : PlainZone) → IsSameZone x y → IsSameZone y z → IsSameZone x z
same_next x y z a b =
    record { largest = b.largest ∙ a.largest; pages = b.pages ∙ a.pages; base = b.base ∙ a.base; min = b.min ∙ a.min; workers = b.workers ∙ a.workers }

chosen-same : (z : PlainZone) (w k : ℕ) (t : MigrateType) (c : Chosen) → IsSameZone z (alloc_chosen z w k t (Some c)).zone
chosen-same z w k t c =
    record { largest = largest-taken z.area k t c; pages = ap length (free-taken z.area k t c) ∙ length-without z.area.free c.head k; base = refl; min = refl; workers = refl }

freed-same : (z : PlainZone) (h k : ℕ) → IsSameZone z (freed z h k)
freed-same z h k =
    record { largest = largest-give z.area h k; pages = ap length (free-give z.area h k) ∙ length-with z.area.free h k; base = refl; min = refl; workers = refl }

handed_on-same : (z : PlainZone) (w h : ℕ) (o : Option Holding) → IsSameZone z (handed_on z w h o)
handed_on-same z w h None = same z
handed_on-same z w h (Some x) =
    record { largest = refl; pages = refl; base = refl; min = refl; workers = length-set z.posted w (posted_to z w ++ record { head = h; order = x.order; kind = x.kind } ∷ []) }

drained-same : (z : PlainZone) (ps : List ℕ) → IsSameZone z (drained z ps)
drained-same z [] = same z
drained-same z (p ∷ ps) =
    same_next z (freed z (p - z.base) 0) (drained (freed z (p - z.base) 0) ps) (freed-same z (p - z.base) 0) (drained-same (freed z (p - z.base) 0) ps)

with_kind-same : (z : PlainZone) (b : ℕ) (t : PageblockType) → IsSameZone z (with_kind z b t)
with_kind-same z b t =
    record { largest = largest-retype z.area b t; pages = ap length (free-retype z.area b t); base = refl; min = refl; workers = refl }

pub step-same : (z : PlainZone) (w : ℕ) (q : Request) → IsSameZone z (step z w q).zone
step-same z w (Request.Alloc k t m) = alloc_by (λ o. IsSameZone z o.zone) z w k t m (λ r. same z) (λ c e. chosen-same z w k t c)
step-same z w (Request.AllocLow k) = low_by (λ o. IsSameZone z o.zone) z w k (same z) (λ h e.
    record { largest = largest-leave z.area h k; pages = ap length (free-leave z.area h k) ∙ length-without z.area.free h k; base = refl; min = refl; workers = refl })
step-same z w (Request.Free p k) = freed-same z (p - z.base) k
step-same z w (Request.Post p k to) = handed_on-same z to (p - z.base) (holding_at z.out (p - z.base))
step-same z w Request.Collect = collected_by (λ o. IsSameZone z o.zone) z w (same z) (λ p ps e.
    record { largest = refl; pages = refl; base = refl; min = refl; workers = length-set z.posted w ps })
step-same z w (Request.Refill t m n) =
    refill_by (λ o. IsSameZone z o.zone) (λ y got. IsSameZone z y) w t m (λ y got c e i. same_next z y (alloc_chosen y w 0 t (Some c)).zone i (chosen-same y w 0 t c)) (λ y r i. i) (λ y got i. i)
    z [] n (same z)
step-same z w (Request.Drain t ps) = drained-same z ps
step-same z w (Request.Isolate b) = isolated_by (λ o. IsSameZone z o.zone) z b (slice_get z.area.kinds b) (λ r. same z) (with_kind-same z b Isolate)
step-same z w (Request.Release b t) =
    released_by (λ o. IsSameZone z o.zone) z b t (slice_get z.area.kinds b) (λ r. same z) (with_kind-same z b (pageblock_type t))
step-same z w (Request.AllocRun n a m) = alloc_run_by (λ o. IsSameZone z o.zone) z w n a m (λ r. same z) (λ h x. run_taken-same z w h n)
step-same z w (Request.AllocRunAt p n) = alloc_run_at_by (λ o. IsSameZone z o.zone) z w p n (λ r. same z) (λ le x. run_taken-same z w (p - z.base) n)
step-same z w (Request.FreeRun p n) = run_freed-same z w (p - z.base) n
