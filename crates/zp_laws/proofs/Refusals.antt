-- A refused request leaves the zone as it was.
use Rattle.std.proofs.Common.{ℕ, ◌≡◌, refl, List, [], ◌∷◌, ◌++◌}
use Rattle.std.specs.Prelude.{slice_get}
use Rattle.zp_model.specs.declared.refused.Refused.{Refused}
use Rattle.zp_model.specs.declared.request.Request.{Request}
use Rattle.zp_model.specs.declared.request.Reply.{Reply}
use Rattle.zp_model.specs.Zone.{PlainZone}
use Rattle.zp_model.specs.Step.{Outcome, step}
use Rattle.zp_laws.proofs.RunSteps.{alloc_run_by, alloc_run_at_by}
use Rattle.zp_laws.proofs.Outcomes.{alloc_by, low_by, collected_by, isolated_by, released_by, refill_by}

-- an outcome that is a refusal and leaves the zone, or is none
abbrev pub IsFair : PlainZone → Outcome → Type 0
IsFair z o = (r : Refused) → o.reply ≡ Reply.Refused r → o.zone ≡ z

pub refusal-same : (z : PlainZone) (w : ℕ) (q : Request) → IsFair z (step z w q)
refusal-same z w (Request.Alloc k t m) = alloc_by (IsFair z) z w k t m (λ x r e. refl) (λ c x r e. absurd (cc))
refusal-same z w (Request.AllocLow k) = low_by (IsFair z) z w k (λ r e. refl) (λ h x r e. absurd (cc))
refusal-same z w (Request.Free p k) = λ r e. absurd (cc)
refusal-same z w (Request.Post p k to) = λ r e. absurd (cc)
refusal-same z w Request.Collect = collected_by (IsFair z) z w (λ r e. refl) (λ p ps x r e. absurd (cc))
refusal-same z w (Request.Refill t m n) =
    refill_by (IsFair z) (λ y got. got ≡ [] → y ≡ z) w t m (λ y got c e i n. absurd (grown got _ n)) (λ y x i r e. i refl) (λ y got i r e. absurd (cc)) z [] n (λ e. refl)
  where
    grown : (got : List ℕ) (p : ℕ) → got ++ p ∷ [] ≡ [] → ⊥
    grown [] p e = cc
    grown (g ∷ got) p e = cc
refusal-same z w (Request.Drain t ps) = λ r e. absurd (cc)
refusal-same z w (Request.Isolate b) = isolated_by (IsFair z) z b (slice_get z.area.kinds b) (λ x r e. refl) (λ r e. absurd (cc))
refusal-same z w (Request.Release b t) = released_by (IsFair z) z b t (slice_get z.area.kinds b) (λ x r e. refl) (λ r e. absurd (cc))
refusal-same z w (Request.AllocRun n a m) = alloc_run_by (IsFair z) z w n a m (λ x r e. refl) (λ h x r e. absurd (cc))
refusal-same z w (Request.AllocRunAt p n) = alloc_run_at_by (IsFair z) z w p n (λ x r e. refl) (λ le x r e. absurd (cc))
refusal-same z w (Request.FreeRun p n) = λ r e. absurd (cc)
