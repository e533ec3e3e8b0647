-- What a C program's call of a worker's handle comes to, by the number it is answered (this profile).
use Rattle.std.specs.Prelude.{ℕ, List, [], ◌≡◌, ◌≢◌, ◌<◌, ◌≤◌, ◌⊎◌, ◌↔◌, length, cond, Option, None, Some, Result, Ok, Err}
use Rattle.zp_model.specs.declared.request.Request.{Request}
use Rattle.zp_model.specs.declared.request.Reply.{Reply}
use Rattle.zp_model.specs.declared.block.Block.{Block}
use Rattle.zp_model.specs.declared.refused.Refused.{Refused}
use Rattle.zp_model.specs.declared.migrate_type.MigrateType.{MigrateType}
use Rattle.zp_model.specs.declared.mark.Mark.{Mark}
use Rattle.zp_model.specs.MigrateType.{type_number}
use Rattle.zp_model.specs.Refused.{refused_number}
use Rattle.zp_zone.specs.declared.told.Told.{Told}
use Rattle.zp_share.specs.Shares.{ShareState, share_at}
use Rattle.zp_share.specs.ZoneShares.{cached_of, is_lent}
use Rattle.zp_gate.specs.declared.call_error.CallError.{CallError}
use Rattle.zp_gate.specs.GatedZones.{drain_request}
use Rattle.zp_gate.specs.Visits.{IsAnswer}
use Rattle.zp_gate.specs.GatedWorkers.{WorkerState, AreDrained, AreDrainedTill, HasPages, HasTooFew, HasTurned, HasZone, IsAt, IsAtShare, IsGrantedAt, IsPut, IsTaken, IsToldAt, LacksBlock, LacksWorker, gated_at, worker_share}
use Rattle.zonealloc.specs.Numbers.{error_number, mark_number, origin_number}

-- there is a worker in the handle, and this is so of it
abbrev pub IsOf : (WorkerState → Type 0) → Option WorkerState → Type 0
IsOf P b = (v : WorkerState) × (b ≡ Some v) × P v

-- past the end of the row there is no zone
abbrev pub HasNoZone : ℕ → WorkerState → Type 0
HasNoZone i v = ¬ HasZone i v

-- there is no such zone; or it has no worker of this number
abbrev pub HasNoWorker : ℕ → ℕ → WorkerState → Type 0
HasNoWorker i n v = HasNoZone i v ⊎ (HasZone i v × ((gated_at v i).key.zone.workers ≤ n))

-- what the worker has of the zone at place i
abbrev pub IsAtZone : ℕ → (ShareState → Type 0) → WorkerState → Type 0
IsAtZone i P v = HasZone i v × P (worker_share v i)

-- When a call is denied for what is seen without a zone. 40: a number of it names nothing, whatever the handle, or is out of the worker's range.
-- 41: the numbers name something, and nothing is in the handle. What is answered beside 0, 40 and 41 is one of the `others`
pub record IsDenied (unnamed : Type 0) (beyond : WorkerState → Type 0) (others : ℕ → Type 0) (code : ℕ) (b : Option WorkerState) : Type 0 where
  pub argument : (code ≡ 40) ↔ (unnamed ⊎ IsOf beyond b)
  pub handle : (code ≡ 41) ↔ ((¬ unnamed) × (b ≡ None))
  pub codes : (code ≡ 0) ⊎ ((code ≡ 40) ⊎ ((code ≡ 41) ⊎ others code))

-- a refusal, or that somebody is in the zone
abbrev pub IsRefusedOrBusy : ℕ → Type 0
IsRefusedOrBusy n = (n < 40) ⊎ (n ≡ 42)

-- the worker in the handle became another by what is so of the two
abbrev pub IsOfBoth : (WorkerState → WorkerState → Type 0) → Option WorkerState → Option WorkerState → Type 0
IsOfBoth P b a = (v : WorkerState) × (w : WorkerState) × (b ≡ Some v) × (a ≡ Some w) × P v w

-- the zone at place i was asked for r, and answered with this refusal
abbrev pub IsRefusedAt : ℕ → Request → Refused → WorkerState → WorkerState → Type 0
IsRefusedAt i r e v w = IsAtShare i (λ d f. HasTurned (IsAnswer d.key r (Reply.Refused e)) d f) v w

-- answered 0, the worker made such a request, and what is told is the reply. Answered below 40 and not 20, it made one and got this refusal. From 40
-- on, and at 20, nothing was asked. `kept` says that the call's results were not written
pub record IsCall (asks : Option WorkerState → Request → Type 0) (told : Reply → Type 0) (kept : Type 0) (i code : ℕ) (b a : Option WorkerState) : Type 0 where
  pub done : code ≡ 0 → (r : Request) × (q : Reply) × asks b r × told q × IsOfBoth (IsGrantedAt i r q) b a
  pub refused : 1 ≤ code → code < 40 → code ≢ 20 → kept × ((r : Request) × (e : Refused) × asks b r × (refused_number e ≡ code) × IsOfBoth (IsRefusedAt i r e) b a)
  pub unasked : (40 ≤ code) ⊎ (code ≡ 20) → kept × (a ≡ b)

-- a block of order k for the type and the mark of these numbers was granted, and it is told where it came from
abbrev pub IsTold : ℕ → ℕ → ℕ → ℕ → ℕ → ℕ → ℕ → Option WorkerState → Option WorkerState → Type 0
IsTold k kind mark page from i code b a =
    code ≡ 0 → (t : MigrateType) × (m : Mark) × (x : Told) × (type_number t ≡ kind) × (mark_number m ≡ mark) × (x.page ≡ page) × (origin_number x.origin ≡ from) × IsOfBoth (IsToldAt i k t m x) b a

-- Why a request came to no reply, by its number: 41 without a worker, 40 without the zone or the worker that is named, 20 where the block that is
-- named is not lent; a number below 40 that is not 20 is the zone's refusal; else 42
pub record IsAskDenied (i : ℕ) (r : Request) (code : ℕ) (b a : Option WorkerState) : Type 0 where
  pub handle : (code ≡ 41) ↔ (b ≡ None)
  pub argument : (code ≡ 40) ↔ IsOf (λ v. HasNoZone i v ⊎ (HasZone i v × LacksWorker r (gated_at v i))) b
  pub lent : (code ≡ 20) ↔ IsOf (λ v. HasZone i v × LacksBlock r (gated_at v i)) b
  pub refused : code < 40 → code ≢ 20 → (e : Refused) × (refused_number e ≡ code) × IsOfBoth (IsRefusedAt i r e) b a
  pub unasked : (40 ≤ code) ⊎ (code ≡ 20) → a ≡ b
  pub codes : (1 ≤ code) × (IsRefusedOrBusy code ⊎ ((code ≡ 40) ⊎ (code ≡ 41)))

-- the requests, by the numbers that C names
abbrev pub AsksAlloc : ℕ → ℕ → ℕ → Option WorkerState → Request → Type 0
AsksAlloc k t m b r = (kind : MigrateType) × (mark : Mark) × (type_number kind ≡ t) × (mark_number mark ≡ m) × (r ≡ Request.Alloc k kind mark)

abbrev pub AsksAllocRun : ℕ → ℕ → ℕ → Option WorkerState → Request → Type 0
AsksAllocRun n a m b r = (mark : Mark) × (mark_number mark ≡ m) × (r ≡ Request.AllocRun n a mark)

abbrev pub Asks : Request → Option WorkerState → Request → Type 0
Asks is b r = r ≡ is

abbrev pub AsksRelease : ℕ → ℕ → Option WorkerState → Request → Type 0
AsksRelease n t b r = (kind : MigrateType) × (type_number kind ≡ t) × (r ≡ Request.Release n kind)

abbrev pub AsksRefill : ℕ → ℕ → ℕ → Option WorkerState → Request → Type 0
AsksRefill i t m b r =
    (v : WorkerState) × (kind : MigrateType) × (mark : Mark) × (b ≡ Some v) × (type_number kind ≡ t) × (mark_number mark ≡ m) × (r ≡ Request.Refill kind mark (worker_share v i).batch)

abbrev pub AsksDrain : ℕ → ℕ → ℕ → Option WorkerState → Request → Type 0
AsksDrain i t n b r = (v : WorkerState) × (kind : MigrateType) × (b ≡ Some v) × (type_number kind ≡ t) × (r ≡ drain_request n kind (worker_share v i))

-- a refill tells no pages
abbrev pub IsPages : Reply → Type 0
IsPages q = (ps : List ℕ) × (q ≡ Reply.Pages ps)

-- the block at this page, of this order
abbrev pub IsBlockAt : ℕ → ℕ → Reply → Type 0
IsBlockAt p k q = (x : Block) × (q ≡ Reply.Block x) × (x.page ≡ p) × (x.order ≡ k)

-- a request that names a block, or frees a run, is answered 20 exactly where the order and the worker that it names are some, and what it names is
-- not lent
abbrev pub IsLentDenied : ℕ → Request → Type 0 → ℕ → Option WorkerState → Type 0
IsLentDenied i r named code b = (code ≡ 20) ↔ (named × IsOf (λ v. HasZone i v × LacksBlock r (gated_at v i)) b)

-- a refill is also answered 46, exactly where the worker has no lists, and 45, exactly where it has and the list that is to be filled has pages
pub record IsRefillDenied (i t : ℕ) (named : Type 0) (code : ℕ) (b : Option WorkerState) : Type 0 where
  pub lists : (code ≡ 46) ↔ (named × IsOf (IsAtZone i (λ s. s.batch ≡ 0)) b)
  pub empty : (code ≡ 45) ↔ (named × IsOf (IsAtZone i (λ s. (k : MigrateType) × (type_number k ≡ t) × HasPages k s)) b)

-- there is no such zone; or in that zone the list of the type of this number has not so many pages, or none are asked for
abbrev pub HasNotSoMany : ℕ → ℕ → ℕ → WorkerState → Type 0
HasNotSoMany i t n v = HasNoZone i v ⊎ IsAtZone i (λ s. (k : MigrateType) × (type_number k ≡ t) × HasTooFew k n s) v

-- answered 0, the page in front of the list of this type was taken; else nothing changed, and 44 is answered exactly where the list is empty
pub record IsTakeCall (i t code before after : ℕ) (b a : Option WorkerState) : Type 0 where
  pub done : code ≡ 0 → IsOfBoth (λ v w. (k : MigrateType) × (type_number k ≡ t) × IsAt i (IsTaken k after) v w) b a
  pub unchanged : 1 ≤ code → (after ≡ before) × (a ≡ b)
  pub empty : (code ≡ 44) ↔ IsOf (IsAtZone i (λ s. (k : MigrateType) × (type_number k ≡ t) × (cached_of (share_at s 0) k ≡ []))) b

-- the number of what a put answers
abbrev pub put_number : Result (Unit {0}) Refused → ℕ
put_number (Ok u) = 0
put_number (Err e) = refused_number e

-- answered below 40, the page was put so; answered anything but 0, nothing changed
pub record IsPutCall (i page code : ℕ) (b a : Option WorkerState) : Type 0 where
  pub asked : code < 40 → IsOfBoth (λ v w. (answer : Result (Unit {0}) Refused) × (put_number answer ≡ code) × IsAt i (IsPut page answer) v w) b a
  pub unchanged : 1 ≤ code → a ≡ b

-- a question to the worker alone: nothing changes, and answered 0 this is told of the worker
pub record IsAsking (tells : WorkerState → ℕ → Type 0) (code before after : ℕ) (b a : Option WorkerState) : Type 0 where
  pub same : a ≡ b
  pub told : code ≡ 0 → (v : WorkerState) × (b ≡ Some v) × tells v after
  pub kept : 1 ≤ code → after ≡ before

abbrev pub TellsLent : ℕ → ℕ → ℕ → WorkerState → ℕ → Type 0
TellsLent i p k v n = IsAtZone i (λ s. n ≡ cond (is_lent (share_at s 0) p k) 1 0) v

abbrev pub TellsCached : ℕ → ℕ → WorkerState → ℕ → Type 0
TellsCached i t v n = IsAtZone i (λ s. (k : MigrateType) × (type_number k ≡ t) × (n ≡ length (cached_of (share_at s 0) k))) v

-- answered 0, all lists were drained. Answered 30 or 42, those before one that was denied so; answered another number, nothing changed
pub record IsDrainAllCall (i code : ℕ) (b a : Option WorkerState) : Type 0 where
  pub done : code ≡ 0 → IsOfBoth (AreDrained i) b a
  pub till : (code ≡ 30) ⊎ (code ≡ 42) → IsOfBoth (λ v w. (e : CallError) × (error_number e ≡ code) × AreDrainedTill i e v w) b a
  pub unasked : (code ≡ 40) ⊎ (code ≡ 41) → a ≡ b
