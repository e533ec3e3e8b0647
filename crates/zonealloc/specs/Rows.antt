-- What the making and unmaking of a row come to, by their answers (this profile).
use Rattle.std.specs.Prelude.{ℕ, ◌≡◌, ◌<◌, ◌≤◌, ◌⊎◌, ◌↔◌, Bool, List, All, length, map, slice_index_or, Option, None, Some, Result, Ok, Err}
use Rattle.zp_model.specs.Bounds.{AreLists}
use Rattle.zp_model.specs.declared.refused.Refused.{Refused}
use Rattle.zp_model.specs.Refused.{refused_number}
use Rattle.zp_share.specs.declared.gathering.Totals.{Totals}
use Rattle.zp_zone.specs.Making.{IsRefusedWithin}
use Rattle.zp_gate.specs.declared.visit_view.VisitView.{VisitView}
use Rattle.zp_zone.specs.declared.config.TheConstants.{WIDE}
use Rattle.zp_gate.specs.GatedRows.{HasNoWorkers, HaveBoards, RowState, key_at, untied}
use Rattle.zp_gate.specs.GatedWorkers.{HasLeftDownTo, IsNewWorker, WorkerState}
use Rattle.zp_gate.specs.Visits.{HasGathered, HasMissed}
use Rattle.zonealloc.specs.declared.handles.RowHandle.{RowHandle}
use Rattle.zonealloc.specs.declared.handles.WorkerHandle.{WorkerHandle}
use Rattle.zonealloc.specs.declared.rows.ZoneTotals.{ZoneTotals}
use Rattle.zonealloc.specs.declared.zone_spec.ZoneSpec.{ZoneSpec}
use Rattle.zonealloc.specs.Memory.{IsCrewLength, IsRowLength}
use Rattle.zonealloc.specs.Zones.{AreApart, IsConfig, IsGoodZone, IsNoConfig, IsOfFirst, spec_key, wanted_zone}

abbrev pub IsEmpty : WorkerHandle → Type 0
IsEmpty h = h.slot.value ≡ None

abbrev pub AreEmpty : RowHandle → List WorkerHandle → Type 0
AreEmpty r ws = (r.slot.value ≡ None) × All IsEmpty ws

-- worker w of a new row is in the handle, with lists of these sizes
abbrev pub HasNewWorker : ℕ → ℕ → ℕ → RowState → WorkerHandle → Type 0
HasNewWorker w batch high x h = (v : WorkerState) × (h.slot.value ≡ Some v) × IsNewWorker w batch high x v

-- of the row x, of as many workers as there were handles, each handle has the worker whose number is its place
abbrev pub HaveWorkers : ℕ → ℕ → RowState → List WorkerHandle → List WorkerHandle → Type 0
HaveWorkers batch high x ws vs = (length vs ≡ length ws) × ((w : ℕ) (none : WorkerHandle) → w < length vs → HasNewWorker w batch high x (slice_index_or vs w none))

-- answered 0, all that were empty are full: the row with a zone as each of those described, which share no page, the handles of the workers in the order of
-- their numbers, and each zone has a board, or none has;
-- else nothing changed
pub record IsMakeCall (boards : Bool) (zones : List ZoneSpec) (batch high code : ℕ) (r s : RowHandle) (ws vs : List WorkerHandle) : Type 0 where
  pub was_empty : code ≡ 0 → (r.slot.value ≡ None) × All IsEmpty ws
  pub made : code ≡ 0 → (x : RowState) × (s.slot.value ≡ Some x) × (map untied x ≡ map (spec_key (length ws)) zones) × HaveBoards boards x × HaveWorkers batch high x ws vs
  pub apart : code ≡ 0 → AreApart zones
  pub unchanged : 1 ≤ code → (s ≡ r) × (vs ≡ ws)

-- what is right of a making before its zones are looked at one by one: there are so many zones and workers, such lists, and zones that lie apart
pub record IsRightRow (zones : List ZoneSpec) (workers batch high : ℕ) : Type 0 where
  pub count : IsRowLength (length zones)
  pub crew : IsCrewLength workers
  pub lists : AreLists batch high
  pub apart : AreApart zones

-- the number of what is wrong of a zone for so many workers, once each zone can be described: of its name, its first page, its pages or its least mark
abbrev pub IsNoZone : ℕ → ZoneSpec → ℕ → Type 0
IsNoZone workers z code = (e : Refused) × (refused_number e ≡ code) × IsRefusedWithin WIDE (wanted_zone workers z) e

-- why the zones come to no row, by its number
abbrev pub IsUnopened : List ZoneSpec → ℕ → ℕ → Type 0
IsUnopened zones workers code = (code ≡ 6) ⊎ (IsOfFirst IsConfig IsNoConfig zones code ⊎ (All IsConfig zones × IsOfFirst (IsGoodZone workers) (IsNoZone workers) zones code))

-- Which number a making in empty handles comes to: that of the first of these that is wrong. Memory may be refused, by 6, before the zones are looked
-- at once more
pub record IsMaking (zones : List ZoneSpec) (workers batch high code : ℕ) : Type 0 where
  pub count : ¬ IsRowLength (length zones) → code ≡ 40
  pub crew : IsRowLength (length zones) → ¬ IsCrewLength workers → code ≡ 5
  pub lists : IsRowLength (length zones) → IsCrewLength workers → ¬ AreLists batch high → code ≡ 40
  pub apart : IsRowLength (length zones) → IsCrewLength workers → AreLists batch high → ¬ AreApart zones → code ≡ 2
  pub each : IsRightRow zones workers batch high → ((code ≡ 0) × All IsConfig zones) ⊎ IsUnopened zones workers code
  pub codes : code < 41

-- the number that a making comes to
abbrev pub made_number : {A : Type 0} → Result A ℕ → ℕ
made_number (Ok a) = 0
made_number (Err n) = n

-- 41 exactly where a handle is not empty
pub record IsMakeDenied (zones : List ZoneSpec) (batch high code : ℕ) (r : RowHandle) (ws : List WorkerHandle) : Type 0 where
  pub handles : (code ≡ 41) ↔ ¬ AreEmpty r ws
  pub making : AreEmpty r ws → IsMaking zones (length ws) batch high code

-- answered 0, the worker that was in the handle has left all zones of its row, and ended; answered 42, it has left the last of them down to one
-- in which somebody was
pub record IsDismissCall (code : ℕ) (b a : Option WorkerState) : Type 0 where
  pub done : code ≡ 0 → (a ≡ None) × ((v : WorkerState) × (w : WorkerState) × (b ≡ Some v) × HasLeftDownTo 0 v w)
  pub busy : code ≡ 42 → (v : WorkerState) × (w : WorkerState) × (b ≡ Some v) × (a ≡ Some w) × (1 ≤ length w.shares) × HasLeftDownTo (length w.shares) v w
  pub empty : (code ≡ 41) ↔ (b ≡ None)
  pub none : code ≡ 41 → a ≡ None
  pub codes : (code ≡ 0) ⊎ ((code ≡ 41) ⊎ (code ≡ 42))

-- answered 0, there was a row, in each of whose zones all workers had left their shares, and there is none; else nothing changed
pub record IsUnmakeCall (code : ℕ) (b a : Option RowState) : Type 0 where
  pub done : code ≡ 0 → (a ≡ None) × ((x : RowState) × (b ≡ Some x) × HasNoWorkers x)
  pub unchanged : 1 ≤ code → a ≡ b
  pub empty : (code ≡ 41) ↔ (b ≡ None)
  pub codes : (code ≡ 0) ⊎ ((code ≡ 41) ⊎ (code ≡ 43))

-- where the pages of a zone are
abbrev pub totals_of : ZoneTotals → Totals
totals_of t = record { free = t.free; posted = t.posted; cached = t.cached; lent = t.lent }

-- the row stays; answered 0, this is where the pages of its zone at place i are, with what all its workers left; answered 43, a worker has not
pub record IsGatherCall (i code : ℕ) (before after : ZoneTotals) (b a : Option RowState) : Type 0 where
  pub same : a ≡ b
  pub done : code ≡ 0 → (x : RowState) × (v : VisitView) × (b ≡ Some x) × (i < length x) × HasGathered (key_at x i) (totals_of after) v
  pub missed : code ≡ 43 → (x : RowState) × (v : VisitView) × (b ≡ Some x) × (i < length x) × HasMissed (key_at x i) v
  pub kept : 1 ≤ code → after ≡ before
  pub empty : (code ≡ 41) ↔ (b ≡ None)
  pub zone : (code ≡ 40) ↔ ((x : RowState) × (b ≡ Some x) × (length x ≤ i))
  pub codes : (code ≡ 0) ⊎ ((code ≡ 40) ⊎ ((code ≡ 41) ⊎ ((code ≡ 42) ⊎ (code ≡ 43))))
