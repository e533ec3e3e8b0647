-- Zones of ours in the place of a machine's (this profile).
use Rattle.std.specs.Prelude.{ℕ, ◌≡◌, ◌≤◌, ◌<◌, ◌+◌, ◌++◌, ◌-◌, ◌%◌, ◌⊎◌, List, [], ◌∷◌, All, length, map, min, slice_index_or, ⊤}
use Rattle.zp_model.specs.declared.constants.TheConstants.{BASE_LIMIT, BASE_STEP, MAX_PAGES, MAX_ZONES}
use Rattle.zp_capture.specs.declared.plan.ZonePlan.{ZonePlan}
use Rattle.zp_capture.specs.declared.planning.PlanFault.{PlanFault}
use Rattle.zp_capture.specs.declared.planning.PlanFault.TheVariants as fault
use Rattle.zp_capture.specs.declared.zone_info.MemoryZone.{MemoryZone}

-- the number at or below a zone's first page that a zone of ours can begin at
abbrev pub base_of : MemoryZone → ℕ
base_of z = z.start - z.start % BASE_STEP

-- the pages from there to its end
abbrev pub pages_of : MemoryZone → ℕ
pages_of z = (z.start + z.spanned) - base_of z

-- the zone in the place of the machine's: it has its node and its name, begins there, and ends where that ends; its mark is no more than its pages
abbrev pub in_place : MemoryZone → ZonePlan
in_place z = record { node = z.node; name = z.name; base = base_of z; pages = pages_of z; min = min z.min (pages_of z) }

-- no zone can be in its place
abbrev pub CannotBe : MemoryZone → Type 0
CannotBe z = (pages_of z ≡ 0) ⊎ (MAX_PAGES < pages_of z) ⊎ (BASE_LIMIT < base_of z)

-- one can
abbrev pub HasPlace : MemoryZone → Type 0
HasPlace z = CannotBe z → ⊥

-- of the elements this is the first that is so
pub record IsFirst {X : Type 0} (P : X → Type 0) (xs : List X) (x : X) : Type 0 where
  pub before : List X
  pub after : List X
  pub all : xs ≡ before ++ x ∷ after
  pub is : P x
  pub first : All (λ y. P y → ⊥) before

-- behind a zone's last page
abbrev pub end_of : ZonePlan → ℕ
end_of p = p.base + p.pages

-- zone k + 1 begins where zone k ends, or behind that
abbrev pub IsRisingAt : List ZonePlan → ℕ → Type 0
IsRisingAt plans k = (d : ZonePlan) → end_of (slice_index_or plans k d) ≤ (slice_index_or plans (k + 1) d).base

-- each zone begins where the one before it ends, or behind that
abbrev pub AreRising : List ZonePlan → Type 0
AreRising plans = (k : ℕ) → k + 1 < length plans → IsRisingAt plans k

-- the first zone that begins before the one in front of it ends has this name
pub record IsFallen (plans : List ZonePlan) (name : List ℕ) : Type 0 where
  pub place : ℕ
  pub there : place + 1 < length plans
  pub fallen : (d : ZonePlan) → ((slice_index_or plans (place + 1) d).base < end_of (slice_index_or plans place d)) × (name ≡ (slice_index_or plans (place + 1) d).name)
  pub first : (k : ℕ) → k < place → IsRisingAt plans k

-- in the place of each of the machine's zones stands one, in their order
abbrev pub AreInPlace : List MemoryZone → List ZonePlan → Type 0
AreInPlace told plans = (plans ≡ map in_place told) × All HasPlace told

-- the zones that are named, or else those in the place of the machine's
abbrev pub ArePlansOf : List ZonePlan → List MemoryZone → List ZonePlan → Type 0
ArePlansOf [] told plans = AreInPlace told plans
ArePlansOf (p ∷ named) told plans = plans ≡ p ∷ named

-- these zones are planned, where those are named, and the machine tells those
pub record ArePlanned (named : List ZonePlan) (told : List MemoryZone) (plans : List ZonePlan) : Type 0 where
  pub are : ArePlansOf named told plans
  pub some : 1 ≤ length plans
  pub few : length plans ≤ MAX_ZONES
  pub rising : AreRising named

-- why none are planned
abbrev pub IsPlanFault : List ZonePlan → List MemoryZone → PlanFault → Type 0
IsPlanFault named told fault.NoZones = (named ≡ []) × (told ≡ [])
IsPlanFault named told fault.TooManyZones = (plans : List ZonePlan) × ArePlansOf named told plans × (MAX_ZONES < length plans)
IsPlanFault named told (fault.CannotBe name) = (zone : MemoryZone) × (named ≡ []) × IsFirst CannotBe told zone × (name ≡ zone.name)
IsPlanFault named told (fault.Overlap name) = IsFallen named name
IsPlanFault named told fault.Memory = ⊤
