-- One section of a share with a zone, whatever is asked: when it may be made, and what comes of it (this profile).
use Rattle.std.specs.Prelude.{ℕ, ◌≡◌, ◌<◌, ◌≤◌, ◌+◌, ◌⊎◌, IsTrue, true, All, List, [], length, Option, None, Some, Result, Ok, Err}
use Rattle.zp_model.specs.declared.constants.TheConstants.{LONGEST_LIST}
use Rattle.zp_model.specs.declared.migrate_type.MigrateType.{MigrateType}
use Rattle.zp_model.specs.declared.refused.Refused.{Refused}
use Rattle.zp_model.specs.declared.refused.Refused.TheVariants.{NoBlock, NothingPosted, NotLent, JournalFull}
use Rattle.zp_model.specs.declared.request.Request.{Request}
use Rattle.zp_model.specs.declared.request.Reply.{Reply}
use Rattle.zp_model.specs.MigrateType.{type_number}
use Rattle.zp_model.specs.Rows.{list_at}
use Rattle.zp_zone.specs.Seats.{ZoneState, IsSeatOf, KeepsSeats}
use Rattle.zp_model.specs.Runs.{is_within, may_alloc_run}
use Rattle.zp_share.specs.PageUses.{UsesState, IsPlace, is_lent_run}
use Rattle.zp_share.specs.PlainShares.{back, refusal_of}
use Rattle.zp_share.specs.ZoneShares.{ZoneShareState, IsAllocRefusal, IsIsolateRefusal, IsLeft, IsNew, IsReleaseRefusal, IsRunRefusal, IsSameSeat, IsSection, cached_of, is_lent, plain_share}

-- these pages are those at the back of a type's list, the last one first
pub record IsBack (s : ZoneShareState) (t : MigrateType) (ps : List ℕ) : Type 0 where
  pub within : length ps ≤ length (cached_of s t)
  pub pages : ps ≡ back (length ps) (cached_of s t)

-- the request is for no run of pages
abbrev pub IsForNoRun : Request → Type 0
IsForNoRun (Request.AllocRun n a m) = ⊥
IsForNoRun (Request.AllocRunAt p n) = ⊥
IsForNoRun (Request.FreeRun p n) = ⊥
IsForNoRun r = Unit {0}

-- what a share needs to ask a zone of so many workers, beside the block that is named: a refill asks for so many pages at most, for a list
-- that is empty, and a drain gives back the pages at the back of a list
abbrev pub MayAsk : ℕ → ℕ → Request → ZoneShareState → Type 0
MayAsk workers most (Request.Post p k to) s = to < workers
MayAsk workers most (Request.Refill t m n) s = (cached_of s t ≡ []) × (1 ≤ n) × (n ≤ most)
MayAsk workers most (Request.Drain t ps) s = IsBack s t ps
MayAsk workers most (Request.AllocRun n a m) s = IsTrue (may_alloc_run n a)
MayAsk workers most r s = Unit {0}

-- a block answered was not the share's, and is then lent
pub record IsLentBlock (p k : ℕ) (s t : ZoneShareState) : Type 0 where
  pub fresh : IsNew s p
  pub lent : IsTrue (is_lent t p k)

-- none of the pages of a run answered was the share's, and all are then lent
pub record IsRunLent (p n : ℕ) (s t : ZoneShareState) : Type 0 where
  pub fresh : (q : ℕ) → is_within p n q ≡ true → IsNew s q
  pub lent : IsTrue (is_lent_run t.seat.part.base t.uses p n)

-- pages answered are some, so many at most, and were not the share's
pub record AreCachedPages (n : ℕ) (ps : List ℕ) (s : ZoneShareState) : Type 0 where
  pub some : 1 ≤ length ps
  pub most : length ps ≤ n
  pub fresh : All (IsNew s) ps

-- the reply is one to this request; there are no replies but these
abbrev pub IsReplyTo : Request → Reply → ZoneShareState → ZoneShareState → Type 0
IsReplyTo (Request.Alloc k t m) (Reply.Page p) s u = IsLentBlock p k s u
IsReplyTo (Request.Alloc k t m) (Reply.Refused e) s u = IsAllocRefusal e
IsReplyTo (Request.AllocLow k) (Reply.Block x) s u = (x.order ≡ k) × IsLentBlock x.page x.order s u
IsReplyTo (Request.AllocLow k) (Reply.Refused e) s u = (e ≡ NoBlock) ⊎ (e ≡ JournalFull)
IsReplyTo (Request.Free p k) Reply.Freed s u = Unit {0}
IsReplyTo (Request.Free p k) (Reply.Refused e) s u = (e ≡ NotLent) ⊎ (e ≡ JournalFull)
IsReplyTo (Request.Post p k to) Reply.Posted s u = Unit {0}
IsReplyTo (Request.Post p k to) (Reply.Refused e) s u = (e ≡ NotLent) ⊎ (e ≡ JournalFull)
IsReplyTo Request.Collect (Reply.Block x) s u = IsLentBlock x.page x.order s u
IsReplyTo Request.Collect (Reply.Refused e) s u = (e ≡ NothingPosted) ⊎ (e ≡ JournalFull)
IsReplyTo (Request.Refill t m n) (Reply.Pages ps) s u = AreCachedPages n ps s
IsReplyTo (Request.Refill t m n) (Reply.Refused e) s u = IsAllocRefusal e
IsReplyTo (Request.Drain t ps) Reply.Drained s u = Unit {0}
IsReplyTo (Request.Drain t ps) (Reply.Refused e) s u = e ≡ JournalFull
IsReplyTo (Request.Isolate b) Reply.Isolated s u = Unit {0}
IsReplyTo (Request.Isolate b) (Reply.Refused e) s u = IsIsolateRefusal e
IsReplyTo (Request.Release b t) Reply.Released s u = Unit {0}
IsReplyTo (Request.Release b t) (Reply.Refused e) s u = IsReleaseRefusal e
IsReplyTo (Request.AllocRun n a m) (Reply.Page p) s u = IsRunLent p n s u
IsReplyTo (Request.AllocRun n a m) (Reply.Refused e) s u = IsAllocRefusal e
IsReplyTo (Request.AllocRunAt b n) (Reply.Page p) s u = IsRunLent p n s u
IsReplyTo (Request.AllocRunAt b n) (Reply.Refused e) s u = IsRunRefusal e
IsReplyTo (Request.FreeRun p n) Reply.Freed s u = Unit {0}
IsReplyTo (Request.FreeRun p n) (Reply.Refused e) s u = (e ≡ NotLent) ⊎ (e ≡ JournalFull)
IsReplyTo r q s u = ⊥

-- where it is refused, nothing was asked of the zone and nothing changed; else it is one section
abbrev pub ComesOf : Option Refused → Request → Reply → ZoneState → ZoneState → ZoneShareState → ZoneShareState → Type 0
ComesOf (Some e) r q z y s t = (q ≡ Reply.Refused e) × IsLeft z y s t
ComesOf None r q z y s t = IsSection r q z y s t

-- what a request to the lent zone comes to
pub record IsAsked (r : Request) (q : Reply) (z y : ZoneState) (s t : ZoneShareState) : Type 0 where
  pub made : ComesOf (refusal_of r (plain_share s)) r q z y s t
  pub reply : IsReplyTo r q s t
  pub same : IsSameSeat s t
  pub fits : IsSeatOf y t.seat
  pub seats : KeepsSeats z y

-- the answers of typed calls as replies
abbrev pub list_reply : Result (List ℕ) Refused → Reply
list_reply (Ok ps) = Reply.Pages ps
list_reply (Err e) = Reply.Refused e

abbrev pub done_reply : Reply → Result (Unit {0}) Refused → Reply
done_reply q (Ok u) = q
done_reply q (Err e) = Reply.Refused e

-- what is so of a refill's reply, of which no more is told than whether it got pages, or why it got none
abbrev pub IsRefilled : (Reply → Type 0) → Result (Unit {0}) Refused → Type 0
IsRefilled P (Ok u) = (ps : List ℕ) × P (Reply.Pages ps)
IsRefilled P (Err e) = P (Reply.Refused e)

-- the pages that change their use are of the zone
abbrev pub HasPlaces : Request → Reply → UsesState → Type 0
HasPlaces (Request.Alloc k t m) (Reply.Page p) u = IsPlace u p
HasPlaces (Request.AllocLow k) (Reply.Block x) u = IsPlace u x.page
HasPlaces (Request.Free p k) Reply.Freed u = IsPlace u p
HasPlaces (Request.Post p k to) Reply.Posted u = IsPlace u p
HasPlaces Request.Collect (Reply.Block x) u = IsPlace u x.page
HasPlaces (Request.Refill t m n) (Reply.Pages ps) u = All (IsPlace u) ps
HasPlaces (Request.Drain t ps) Reply.Drained u = All (IsPlace u) ps
HasPlaces r q u = Unit {0}

-- the lists have room for the pages that come, and have those that leave
abbrev pub HaveRoom : Request → Reply → List (List ℕ) → Type 0
HaveRoom (Request.Refill t m n) (Reply.Pages ps) ls = length ps + length (list_at ls (type_number t)) ≤ LONGEST_LIST
HaveRoom (Request.Drain t ps) Reply.Drained ls = length ps ≤ length (list_at ls (type_number t))
HaveRoom r q ls = Unit {0}
