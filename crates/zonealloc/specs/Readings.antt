-- What a C program is told of a zone, by numbers (this profile).
use Rattle.std.specs.Prelude.{ℕ, ◌≡◌, ◌≤◌, ◌⊎◌, List, ◌++◌, take, drop, length, Option, None, Some}
use Rattle.zp_model.specs.declared.counts.CountsByType.{CountsByType}
use Rattle.zp_model.specs.declared.mark.Level.{Level}
use Rattle.zp_model.specs.declared.mark.Level.TheVariants as level
use Rattle.zp_model.specs.declared.state.State.{State}
use Rattle.zp_model.specs.declared.state.State.TheVariants.{Tail, Free, Out, Posted}
use Rattle.zp_model.specs.MigrateType.{type_number}
use Rattle.zp_model.specs.PageblockType.{pageblock_type_number}
use Rattle.zp_zone.specs.declared.page.ZonePage.{ZonePage}
use Rattle.zp_zone.specs.declared.pageblock.Pageblock.{Pageblock}
use Rattle.zp_zone.specs.Seats.{ZoneState}
use Rattle.zp_gate.specs.declared.question.ZoneTold.{ZoneTold}
use Rattle.zp_gate.specs.Readings.{HasPage, HasPageblock, IsThen, TellsLine, TellsPage, TellsPageblock, TellsTypes, TellsZone}
use Rattle.zp_gate.specs.GatedWorkers.{HasZone, WorkerState, gated_at, worker_share}
use Rattle.zonealloc.specs.declared.told.ZoneCounts.{ZoneCounts}
use Rattle.zonealloc.specs.declared.told.ZoneTypes.{ZoneTypes}
use Rattle.zonealloc.specs.declared.told.PageTold.{PageTold}
use Rattle.zonealloc.specs.declared.told.PageblockTold.{PageblockTold}

abbrev pub level_number : Level → ℕ
level_number level.Short = 0
level_number level.Min = 1
level_number level.Low = 2
level_number level.High = 3

abbrev pub counts_told : ZoneTold → ZoneCounts
counts_told t = record { by_order = t.counts.by_order; free = t.counts.free; posted = t.posted; level = level_number t.level }

abbrev pub types_told : CountsByType → ZoneTypes
types_told t = record { free = t.free; pageblocks = t.pageblocks }

-- a page's entry: what the state does not have is 0
abbrev pub page_told : State → PageTold
page_told Tail = record { state = 0; order = 0; kind = 0; worker = 0 }
page_told (Free k) = record { state = 1; order = k; kind = 0; worker = 0 }
page_told (Out k t w) = record { state = 2; order = k; kind = type_number t; worker = w }
page_told (Posted k t w) = record { state = 3; order = k; kind = type_number t; worker = w }

-- the order of the largest free block; 11 where there is none
abbrev pub largest_told : Option ℕ → ℕ
largest_told None = 11
largest_told (Some k) = k

abbrev pub pageblock_told : Pageblock → PageblockTold
pageblock_told b = record { kind = pageblock_type_number b.kind; free = b.free; largest = largest_told b.largest }

-- a reading: nothing changes but what is told, and answered 0 that is so of the zone at place i as it is at one moment
pub record IsReading {A : Type 0} (tells : WorkerState → A → Type 0) (i code : ℕ) (before after : A) (b a : Option WorkerState) : Type 0 where
  pub same : a ≡ b
  pub kept : 1 ≤ code → after ≡ before
  pub told : code ≡ 0 → (v : WorkerState) × (b ≡ Some v) × HasZone i v × tells v after

-- it is told so of the zone at place i
abbrev pub IsToldAt : ℕ → (ZoneState → Type 0) → WorkerState → Type 0
IsToldAt i P v = IsThen (gated_at v i).key (worker_share v i) P

abbrev pub TellsCounts : ℕ → WorkerState → ZoneCounts → Type 0
TellsCounts i v c = (t : ZoneTold) × (c ≡ counts_told t) × IsToldAt i (TellsZone t) v

abbrev pub TellsTypesAt : ℕ → WorkerState → ZoneTypes → Type 0
TellsTypesAt i v c = (t : CountsByType) × (c ≡ types_told t) × IsToldAt i (TellsTypes t) v

abbrev pub TellsPageAt : ℕ → ℕ → WorkerState → PageTold → Type 0
TellsPageAt i p v e = (x : ZonePage) × (e ≡ page_told x.state) × IsToldAt i (TellsPage p (Some x)) v

abbrev pub TellsPageblockAt : ℕ → ℕ → WorkerState → PageblockTold → Type 0
TellsPageblockAt i n v e = (x : Pageblock) × (e ≡ pageblock_told x) × IsToldAt i (TellsPageblock n (Some x)) v

-- there is no such zone, or the page is outside it
abbrev pub HasNoPage : ℕ → ℕ → WorkerState → Type 0
HasNoPage i p v = (¬ HasZone i v) ⊎ (HasZone i v × ¬ HasPage (gated_at v i).key p)

-- the zone has no pageblock of this number
abbrev pub HasNoPageblock : ℕ → ℕ → WorkerState → Type 0
HasNoPageblock i n v = HasZone i v × ¬ HasPageblock (gated_at v i).key n

-- a text over the beginning of a buffer, as much as there is room for
abbrev pub written_over : List ℕ → List ℕ → List ℕ
written_over text buffer = take (length buffer) text ++ drop (length text) buffer

-- nothing changes but the buffer and the length; answered 0, these are of the zone's info line as it is at one moment
pub record IsInfoCall (i code : ℕ) (buffer written : List ℕ) (before after : ℕ) (b a : Option WorkerState) : Type 0 where
  pub same : a ≡ b
  pub kept : 1 ≤ code → (written ≡ buffer) × (after ≡ before)
  pub told : code ≡ 0 → (v : WorkerState) × (line : List ℕ) × (b ≡ Some v) × HasZone i v × IsToldAt i (TellsLine line) v × (written ≡ written_over line buffer) × (after ≡ length line)
