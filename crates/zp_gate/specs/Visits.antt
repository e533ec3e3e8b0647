-- What one visit behind a lock comes to (this profile). What stands there is not seen between visits: each of them speaks of it as it is then.
use Rattle.std.specs.Prelude.{ℕ, ◌≡◌, Some}
use Rattle.zp_model.specs.declared.migrate_type.MigrateType.{MigrateType}
use Rattle.zp_model.specs.declared.mark.Mark.{Mark}
use Rattle.zp_model.specs.declared.request.Request.{Request}
use Rattle.zp_model.specs.declared.request.Reply.{Reply}
use Rattle.zp_model.specs.Choose.{origin}
use Rattle.zp_zone.specs.declared.told.Told.{Told}
use Rattle.zp_share.specs.Gathering.{IsCrewOf}
use Rattle.zp_share.specs.declared.gathering.Totals.{Totals}
use Rattle.zp_share.specs.Shares.{ShareState}
use Rattle.zp_gate.specs.declared.granted.Granted.{Granted}
use Rattle.zp_gate.specs.declared.try_lock.GatherError.{GatherError}
use Rattle.zp_gate.specs.declared.try_lock.GatherError.TheVariants.{Busy, HasWorkers}
use Rattle.zp_gate.specs.declared.visit_view.VisitView.{VisitView}
use Rattle.zp_gate.specs.GatedZones.{AreSectionsTill, GateKey, GatedState, IsBehind, IsGatheredIn, IsLeavingOf, IsSectionOf}

-- the visitor found the one behind the lock with this key, and left the other
pub record IsVisit (key : GateKey) (y z : GatedState) (v : VisitView) : Type 0 where
  pub view : v ≡ record { key = key; found = Some y; left = Some z }
  pub behind : IsBehind key y

-- a share made one section with the zone of this key, whatever it was, and this is the zone's answer; the rest of the share stays
abbrev pub IsAnswer : GateKey → Request → Reply → ShareState → ShareState → Type 0
IsAnswer key r q s t = (y : GatedState) × (z : GatedState) × IsBehind key y × IsSectionOf r q y z s t

-- a share was granted this block, and it is told from where the zone took it, as it was before the request
abbrev pub IsBlockTold : GateKey → ℕ → MigrateType → Mark → Told → ShareState → ShareState → Type 0
IsBlockTold key k t m x s u =
    (y : GatedState) × (z : GatedState) × IsBehind key y × IsSectionOf (Request.Alloc k t m) (Reply.Page x.page) y z s u × (origin y.zone.plain.area k t ≡ Some x.origin)

-- many requests were made of one zone with this key, in one visit, one after another up to the first that was refused
abbrev pub AreAnswers : GateKey → (ℕ → Request) → (ℕ → Reply) → ℕ → Granted → ShareState → ShareState → Type 0
AreAnswers key asks gives most g s t = (y : GatedState) × (z : GatedState) × IsBehind key y × AreSectionsTill asks gives most g y z s t

-- this share was left, behind those that had been
abbrev pub HasKept : GateKey → ShareState → VisitView → Type 0
HasKept key s v = (y : GatedState) × (z : GatedState) × IsVisit key y z v × IsLeavingOf s y z

-- this is where the pages were, and nothing changed
abbrev pub HasGathered : GateKey → Totals → VisitView → Type 0
HasGathered key t v = (y : GatedState) × IsVisit key y y v × IsGatheredIn y t

-- a worker's share was not among those that were left
abbrev pub HasMissed : GateKey → VisitView → Type 0
HasMissed key v = (y : GatedState) × IsVisit key y y v × ¬ IsCrewOf y.left y.zone

-- why it is not told where the pages are: somebody was in, or this visit missed a worker's share
abbrev pub IsUngathered : GateKey → GatherError → Type 0
IsUngathered key (Busy b) = Unit {0}
IsUngathered key (HasWorkers v) = HasMissed key v
