-- What a worker has of each zone of its row, and what its calls come to. A zone behind a lock is not seen between calls: each of them
-- speaks of the zone as it is then, whatever it is (this profile).
use Rattle.std.specs.Prelude.{ℕ, ◌≡◌, ◌≢◌, ◌<◌, ◌≤◌, ◌+◌, ◌-◌, ◌⊎◌, ◌↔◌, ◌++◌, false, IfErr, IfOk, List, [], ◌∷◌, All, length, map, slice_index_or, slice_set, take, Some, Result, Ok, Err}
use Rattle.zp_model.specs.declared.request.Request.{Request}
use Rattle.zp_model.specs.declared.request.Reply.{Reply}
use Rattle.zp_model.specs.declared.refused.Refused.{Refused as Refusal}
use Rattle.zp_model.specs.declared.refused.Refused.TheVariants.{NotLent}
use Rattle.zp_model.specs.declared.migrate_type.MigrateType.{MigrateType}
use Rattle.zp_model.specs.declared.migrate_type.MigrateType.TheVariants.{Unmovable, Reclaimable, Movable}
use Rattle.zp_model.specs.declared.mark.Mark.{Mark}
use Rattle.zp_model.specs.Rows.{front}
use Rattle.zp_zone.specs.Seats.{IsUnused, SeatState}
use Rattle.zp_zone.specs.declared.told.Told.{Told}
use Rattle.zp_share.specs.PlainShares.{lends_for, putting, taken}
use Rattle.zp_share.specs.Shares.{ShareState, share_at, with_zone_share}
use Rattle.zp_share.specs.ZoneShares.{cached_of, opening_share, plain_share}
use Rattle.zp_gate.specs.declared.call_error.CallError.{CallError}
use Rattle.zp_gate.specs.declared.call_error.CallError.TheVariants.{Busy, NoLists, NoWorker, NoZone, NotEmpty, Refused, TooFew}
use Rattle.zp_gate.specs.declared.granted.Granted.{Granted}
use Rattle.zp_gate.specs.declared.visit_view.VisitView.{VisitView}
use Rattle.zp_gate.specs.GatedZones.{GateKey, drain_request, no_gate}
use Rattle.zp_gate.specs.Visits.{AreAnswers, HasKept, IsAnswer, IsBlockTold}

-- what never changes of a zone, and a worker's share of it alone
pub record GatedShareState : Type 0 where
  pub key : GateKey
  pub share : ShareState

-- for each zone of the row that the worker has not left, the lowest first, its share; and the visits by which it left the others, the first to
-- be left in front
pub record WorkerState : Type 0 where
  pub shares : List GatedShareState
  pub left : List VisitView

-- past the end of the row there is nothing
abbrev pub no_share : ShareState
no_share = record { worker = 0; batch = 0; high_len = 0; zones = [] }

abbrev pub no_gated_share : GatedShareState
no_gated_share = record { key = no_gate; share = no_share }

-- the worker has a share of the zone at place i
abbrev pub HasZone : ℕ → WorkerState → Type 0
HasZone i v = i < length v.shares

abbrev pub gated_at : WorkerState → ℕ → GatedShareState
gated_at v i = slice_index_or v.shares i no_gated_share

-- the worker's share of the zone at place i, and what it has of the zone there
abbrev pub worker_share : WorkerState → ℕ → ShareState
worker_share v i = (gated_at v i).share

-- the zones of a worker, by what never changes of them
abbrev pub keys_of : WorkerState → List GateKey
keys_of v = map (λ d. d.key) v.shares

-- seats of workers 0, 1 and so on, in this order
abbrev pub AreInOrder : List SeatState → Type 0
AreInOrder ss = (w : ℕ) (none : SeatState) → w < length ss → (slice_index_or ss w none).worker ≡ w

-- of each value and its number, where they are numbered from m - 1 down
abbrev pub AllDown : {A : Type 0} → (ℕ → A → Type 0) → ℕ → List A → Type 0
AllDown {A = A} P m xs = (k w : ℕ) (none : A) → k < length xs → k + w + 1 ≡ m → P w (slice_index_or xs k none)

-- a share of one zone as it is made, for worker w and with lists of these sizes: it is of a seat with which no request was made, so that nothing is
-- lent and no list has a page
pub record IsNewShare (w batch high : ℕ) (s : ShareState) : Type 0 where
  pub seat : SeatState
  pub unused : IsUnused seat
  pub worker : seat.worker ≡ w
  pub share : s ≡ record { worker = w; batch = batch; high_len = high; zones = opening_share seat (length seat.part.blocks) ∷ [] }

-- worker w of a new row of zones with these keys: it has a share of each of them
pub record IsNewWorker (w batch high : ℕ) (row : List GateKey) (v : WorkerState) : Type 0 where
  pub zones : keys_of v ≡ row
  pub shares : All (λ d. IsNewShare w batch high d.share) v.shares
  pub left : v.left ≡ []

-- the worker has lists, and that of this type has pages
abbrev pub HasPages : MigrateType → ShareState → Type 0
HasPages k s = (1 ≤ s.batch) × (1 ≤ length (cached_of (share_at s 0) k))

-- a block is to be posted to a worker that the zone does not have
abbrev pub LacksWorker : Request → GatedShareState → Type 0
LacksWorker (Request.Post p k w) d = d.key.zone.workers ≤ w
LacksWorker r d = ⊥

-- the zone has the worker, if the request names one, and the block that it names is not lent
abbrev pub LacksBlock : Request → GatedShareState → Type 0
LacksBlock r d = (¬ LacksWorker r d) × (lends_for r (plain_share (share_at d.share 0)) ≡ false)

-- of one share became another, by what is so of the two; the zone's key stays
abbrev pub HasTurned : (ShareState → ShareState → Type 0) → GatedShareState → GatedShareState → Type 0
HasTurned P d e = P d.share e.share × (e ≡ record d { share = e.share })

-- the zone was asked, and granted the request by this reply; the worker that it names, if it names one, is the zone's
abbrev pub IsGranted : Request → Reply → GatedShareState → GatedShareState → Type 0
IsGranted r q d e = HasTurned (IsAnswer d.key r q) d e × ¬ LacksWorker r d

-- for what a request is denied without the zone: somebody is with it; the block is not lent, or the zone has no such worker; the worker has no
-- lists or one with pages to fill, or too few pages to drain
abbrev pub IsUnasked : Request → CallError → GatedShareState → Type 0
IsUnasked r (Busy b) d = ¬ LacksBlock r d
IsUnasked r (Refused e) d = (e ≡ NotLent) × LacksBlock r d
IsUnasked r NoWorker d = LacksWorker r d
IsUnasked (Request.Refill k m n) NoLists d = d.share.batch ≡ 0
IsUnasked (Request.Refill k m n) NotEmpty d = HasPages k d.share
IsUnasked (Request.Drain k ps) TooFew d = Unit {0}
IsUnasked r why d = ⊥

-- why a section comes to no reply, where the row has the zone
abbrev pub IsOfSection : CallError → Type 0
IsOfSection (Busy b) = Unit {0}
IsOfSection NoWorker = Unit {0}
IsOfSection (Refused e) = Unit {0}
IsOfSection e = ⊥

-- nothing was asked, and why; or which refusal was the zone's answer
abbrev pub IsDenial : Request → CallError → GatedShareState → GatedShareState → Type 0
IsDenial r why d f = (IsUnasked r why d × (f ≡ d)) ⊎ ((e : Refusal) × (why ≡ Refused e) × (e ≢ NotLent) × HasTurned (IsAnswer d.key r (Reply.Refused e)) d f)

-- What a request to the zone comes to: it is granted by the reply that gives this, or denied, and when it is denied for what is seen without the zone.
-- That is where the zone has no such worker, and where the block is not lent; what else denies it is the zone's, or that somebody is in it
pub record IsSection {A : Type 0} (r : Request) (given : A → Reply) (result : Result A CallError) (d f : GatedShareState) : Type 0 where
  pub ok : IfOk result (λ a. IsGranted r (given a) d f)
  pub worker : (result ≡ Err NoWorker) ↔ LacksWorker r d
  pub lent : (result ≡ Err (Refused NotLent)) ↔ LacksBlock r d
  pub why : IfErr result IsOfSection
  pub denied : IfErr result (λ e. IsDenial r e d f)

-- a drain of so many pages has too few, or is to give none
abbrev pub HasTooFew : MigrateType → ℕ → ShareState → Type 0
HasTooFew k n s = (n ≡ 0) ⊎ (length (cached_of (share_at s 0) k) < n)

-- some pages came, in one refill of as many as a batch
abbrev pub IsFilled : GateKey → MigrateType → Mark → ShareState → ShareState → Type 0
IsFilled key k m s t = (ps : List ℕ) × IsAnswer key (Request.Refill k m s.batch) (Reply.Pages ps) s t

-- so many pages went back from the back of a list
abbrev pub IsDrained : GateKey → MigrateType → ℕ → ShareState → ShareState → Type 0
IsDrained key k n s t = IsAnswer key (drain_request n k s) Reply.Drained s t

-- at the zone of place i the one share became the other, by what is so of the two; the shares of other zones stay, and what the worker left
abbrev pub IsAtShare : ℕ → (GatedShareState → GatedShareState → Type 0) → WorkerState → WorkerState → Type 0
IsAtShare i P v w = HasZone i v × P (gated_at v i) (gated_at w i) × (w ≡ record v { shares = slice_set v.shares i (gated_at w i) })

-- and so the one share of it the other
abbrev pub IsAt : ℕ → (ShareState → ShareState → Type 0) → WorkerState → WorkerState → Type 0
IsAt i P v w = IsAtShare i (HasTurned P) v w

-- the request to the zone at place i was granted so
abbrev pub IsGrantedAt : ℕ → Request → Reply → WorkerState → WorkerState → Type 0
IsGrantedAt i r q v w = IsAtShare i (IsGranted r q) v w

-- the request to the zone at place i was denied so: where there is no such zone nothing is asked
abbrev pub IsDeniedAt : ℕ → Request → CallError → WorkerState → WorkerState → Type 0
IsDeniedAt i r e v w = ((e ≡ NoZone) × (¬ HasZone i v) × (w ≡ v)) ⊎ IsAtShare i (IsDenial r e) v w

-- and what it comes to for a worker: also denied where there is no such zone
pub record IsSectionAt {A : Type 0} (i : ℕ) (r : Request) (given : A → Reply) (result : Result A CallError) (v w : WorkerState) : Type 0 where
  pub ok : IfOk result (λ a. IsGrantedAt i r (given a) v w)
  pub zone : (result ≡ Err NoZone) ↔ ¬ HasZone i v
  pub worker : (result ≡ Err NoWorker) ↔ (HasZone i v × LacksWorker r (gated_at v i))
  pub lent : (result ≡ Err (Refused NotLent)) ↔ (HasZone i v × LacksBlock r (gated_at v i))
  pub why : IfErr result (λ e. HasZone i v → IsOfSection e)
  pub denied : IfErr result (λ e. IsDeniedAt i r e v w)

-- a block of the zone at place i was granted, and it is told where it came from
abbrev pub IsToldAt : ℕ → ℕ → MigrateType → Mark → Told → WorkerState → WorkerState → Type 0
IsToldAt i k t m x v w = IsAt i (IsBlockTold (gated_at v i).key k t m x) v w

-- so many requests were made of the zone at place i in one visit, one after another up to the first that was refused
abbrev pub AreMadeAt : ℕ → (ℕ → Request) → (ℕ → Reply) → ℕ → Granted → WorkerState → WorkerState → Type 0
AreMadeAt i asks gives most g v w = IsAt i (AreAnswers (gated_at v i).key asks gives most g) v w

-- the page in front of a type's list was taken, and is lent
pub record IsTaken (k : MigrateType) (page : ℕ) (s t : ShareState) : Type 0 where
  pub front : front (cached_of (share_at s 0) k) ≡ Some page
  pub after : plain_share (share_at t 0) ≡ taken k (plain_share (share_at s 0))
  pub seat : (share_at t 0).seat ≡ (share_at s 0).seat
  pub others : t ≡ with_zone_share 0 (share_at t 0) s

-- a page was put on the list of its type, or refused
pub record IsPut (page : ℕ) (given : Result (Unit {0}) Refusal) (s t : ShareState) : Type 0 where
  pub answer : given ≡ (putting (plain_share (share_at s 0)) page s.high_len).answer
  pub after : plain_share (share_at t 0) ≡ (putting (plain_share (share_at s 0)) page s.high_len).share
  pub seat : (share_at t 0).seat ≡ (share_at s 0).seat
  pub others : t ≡ with_zone_share 0 (share_at t 0) s

-- the worker has lists, and the page was put on the one of its type
abbrev pub IsPutOn : ℕ → ShareState → ShareState → Type 0
IsPutOn page s t = (1 ≤ s.batch) × IsPut page (Ok tt) s t

-- the page was put on no list, and nothing changed: the worker has none, whatever the page; or by the share's refusal
abbrev pub IsPutDenial : ℕ → CallError → ShareState → ShareState → Type 0
IsPutDenial page NoLists s t = (s.batch ≡ 0) × (t ≡ s)
IsPutDenial page (Refused e) s t = (1 ≤ s.batch) × (IsPut page (Err e) s t × (t ≡ s))
IsPutDenial page d s t = ⊥

-- all pages of a type's list went back to the zone at place i, where it had any
abbrev pub IsListDrained : ℕ → MigrateType → WorkerState → WorkerState → Type 0
IsListDrained i k v w =
    let pages : ℕ = length (cached_of (share_at (worker_share v i) 0) k) in
    ((pages ≡ 0) × (w ≡ v)) ⊎ ((1 ≤ pages) × IsAt i (IsDrained (gated_at v i).key k pages) v w)

-- the list has pages, and that they go back was denied
abbrev pub IsListDenied : ℕ → MigrateType → CallError → WorkerState → WorkerState → Type 0
IsListDenied i k e v w =
    let pages : ℕ = length (cached_of (share_at (worker_share v i) 0) k) in
    (1 ≤ pages) × IsOfSection e × IsAtShare i (IsDenial (drain_request pages k (worker_share v i)) e) v w

-- all lists of the zone at place i were drained, one after the other
abbrev pub AreDrained : ℕ → WorkerState → WorkerState → Type 0
AreDrained i v w = (a : WorkerState) × (b : WorkerState) × IsListDrained i Unmovable v a × IsListDrained i Reclaimable a b × IsListDrained i Movable b w

-- some of them were, from the first on, and then one was denied
abbrev pub AreDrainedTill : ℕ → CallError → WorkerState → WorkerState → Type 0
AreDrainedTill i e v w =
    IsListDenied i Unmovable e v w
    ⊎ (((a : WorkerState) × IsListDrained i Unmovable v a × IsListDenied i Reclaimable e a w)
    ⊎ ((a : WorkerState) × (b : WorkerState) × IsListDrained i Unmovable v a × IsListDrained i Reclaimable a b × IsListDenied i Movable e b w))

-- the worker left the last of its zones, by a visit that left its share there
abbrev pub HasLeftLast : WorkerState → WorkerState → Type 0
HasLeftLast v w =
    let i : ℕ = length v.shares - 1 in
    (visit : VisitView) × HasKept (gated_at v i).key (worker_share v i) visit × (w ≡ record { shares = take i v.shares; left = v.left ++ visit ∷ [] })

-- the worker left zones, the last first, till n are left
pub record HasLeftDownTo (n : ℕ) (v w : WorkerState) : Type 0 where
  pub within : n ≤ length v.shares
  pub shares : w.shares ≡ take n v.shares
  pub visits : length w.left + n ≡ length v.left + length v.shares
  pub before : take (length v.left) w.left ≡ v.left
  -- the visit to the zone at place i, which was left after those above it
  pub kept : (i j : ℕ) (none : VisitView) → n ≤ i → i < length v.shares → j + i + 1 ≡ length v.left + length v.shares → HasKept (gated_at v i).key (worker_share v i) (slice_index_or w.left j none)
