-- What lines tell of the machine.
use Rattle.std.proofs.Common.{◌≡◌, inr, List, ℕ, Result, Ok, Err, OnOk, false, codes, refl, subst}
use Rattle.zp_capture.specs.MachineLines.{IsToldWithin, IsZoneTold, SaysNone, Told, ToldZones}

-- a line that is none of a CPU may tell of zones
pub zones_noted : {A E : Type 0} (r : Result A E) (was t : Told) (line : List ℕ) (v : ToldZones) → was ≡ t → SaysNone line (codes "cpu:") → OnOk r (IsZoneTold was.zones line v) →
    OnOk r (IsToldWithin false t line (record was { zones = v }))
zones_noted (Ok a) was t line v is none h = subst (λ x. IsToldWithin false x line (record was { zones = v })) is (inr (none, v, h, refl))
zones_noted (Err e) was t line v is none h = tt
