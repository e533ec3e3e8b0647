-- What one worker has of one zone: its lists of pages, the blocks lent to it, and its sections there, tied to the zone (this
-- profile).
use Rattle.std.specs.Prelude.{ℕ, ◌≡◌, ◌==◌, ◌<◌, ◌≤◌, ◌⊎◌, Bool, List, [], ◌∷◌, length, map, Option, None, Some}
use Rattle.std.specs.List.{IsDistinct}
use Rattle.zp_model.specs.declared.migrate_type.MigrateType.{MigrateType}
use Rattle.zp_model.specs.declared.refused.Refused.{Refused}
use Rattle.zp_model.specs.declared.refused.Refused.TheVariants.{BelowMark, NoBlock, BadPageblock, AlreadyIsolated, NotIsolated, BadRun, NotFree, JournalFull}
use Rattle.zp_model.specs.Entries.{Entry}
use Rattle.zp_model.specs.declared.request.Request.{Request}
use Rattle.zp_model.specs.declared.request.Reply.{Reply}
use Rattle.zp_model.specs.MigrateType.{types_count}
use Rattle.zp_model.specs.Rows.{list_at, stands_in}
use Rattle.zp_model.specs.Zone.{PlainZone, workers_of}
use Rattle.zp_model.specs.Books.{own, made_by}
use Rattle.zp_model.specs.Step.{step}
use Rattle.zp_zone.specs.Seats.{ZoneState, SeatState, asked, replied, replied_in}
use Rattle.zp_share.specs.declared.page_use.PageUse.{PageUse}
use Rattle.zp_share.specs.declared.page_use.PageUse.TheVariants.{Away}
use Rattle.zp_share.specs.PageUses.{UsesState, IsPlace, held, is_cached_as, uses_after}
use Rattle.zp_share.specs.PlainShares.{SectionsState, PlainZoneShare, used_as, lends, list_of, share_after, share_after_in, opening_own}

pub record ZoneShareState : Type 0 where
  -- the worker, what ties it to the zone, and its part of the zone's books
  pub seat : SeatState
  -- what each page of the zone is to the worker
  pub uses : List PageUse
  -- for each type the worker's list of pages, the front first
  pub cached : List (List ℕ)
  pub sections : SectionsState

-- without what ties it to the zone
abbrev pub plain_share : ZoneShareState → PlainZoneShare
plain_share s = record { worker = s.seat.worker; base = s.seat.part.base; uses = s.uses; cached = s.cached; sections = s.sections }

-- and with it: the share of this seat
abbrev pub tied_by : SeatState → PlainZoneShare → ZoneShareState
tied_by seat s = record { seat = seat; uses = s.uses; cached = s.cached; sections = s.sections }

-- what an absolute page is to the worker
abbrev pub use_in : ZoneShareState → ℕ → PageUse
use_in s p = used_as (plain_share s) p

-- whether the block of order k at an absolute page is lent
abbrev pub is_lent : ZoneShareState → ℕ → ℕ → Bool
is_lent s p k = lends (plain_share s) p k

abbrev pub uses_of : ZoneShareState → UsesState
uses_of s = record { base = s.seat.part.base; uses = s.uses }

-- an absolute page of the zone that is none of the share's: neither in its name nor on a list
pub record IsNew (s : ZoneShareState) (p : ℕ) : Type 0 where
  pub place : IsPlace (uses_of s) p
  pub away : use_in s p ≡ Away

-- the list of a type
abbrev pub cached_of : ZoneShareState → MigrateType → List ℕ
cached_of s t = list_of (plain_share s) t

-- no list has more than n pages
abbrev pub HasAtMost : ℕ → ZoneShareState → Type 0
HasAtMost n s = (t : MigrateType) → length (cached_of s t) ≤ n

-- a refill asks for n pages at most
abbrev pub RefillsAtMost : ℕ → Request → Type 0
RefillsAtMost n (Request.Refill t m k) = k ≤ n
RefillsAtMost n r = Unit {0}

-- the last entry of a list, where it has one
abbrev pub last_of : List Entry → Option Entry
last_of [] = None
last_of (e ∷ []) = Some e
last_of (e ∷ f ∷ es) = last_of (f ∷ es)

-- the blocks of the seat are the cached pages and the lent blocks, each once, and the entries of the seat are the sections
pub record IsShare (s : ZoneShareState) : Type 0 where
  -- page by page, what is out in the worker's name is what the use stands for
  pub blocks : s.seat.part.blocks ≡ map (held s.seat.worker) s.uses
  pub lists : length s.cached ≡ types_count
  pub distinct : (r : ℕ) → IsDistinct (λ x y. x == y) (list_at s.cached r)
  -- a list holds the pages that are cached for its type
  pub cached : (r p : ℕ) → stands_in p (list_at s.cached r) ≡ is_cached_as r (use_in s p)
  pub sections : s.sections.made ≡ length s.seat.part.entries
  pub last : s.sections.last ≡ last_of s.seat.part.entries

-- the zone's books and the share agree: what is out in the worker's name is what the share has, and the worker's entries are the
-- share's sections
pub record SharesIn (z : ZoneState) (s : ZoneShareState) : Type 0 where
  pub tie : s.seat.tie ≡ z.tie
  pub worker : s.seat.worker < workers_of z.plain
  pub blocks : own s.seat.worker z.plain.out ≡ map (held s.seat.worker) s.uses
  pub sections : s.sections.made ≡ length (made_by s.seat.worker z.entries)
  pub last : s.sections.last ≡ last_of (made_by s.seat.worker z.entries)

-- the share, when its request, which is for no run, is answered so
abbrev pub answered : Request → Reply → ZoneShareState → ZoneShareState
answered r q s = tied_by (replied r q s.seat) (share_after (uses_after s.seat.part.base r q s.uses) r q (plain_share s))

-- and when any request of its is answered so in the zone z as it was
abbrev pub answered_in : PlainZone → Request → Reply → ZoneShareState → ZoneShareState
answered_in z r q s = tied_by (replied_in z r q s.seat) (share_after_in z r q (plain_share s))

-- one section: the request is a step of the lent zone, the share changes as the reply says, and the two agree before and after
pub record IsSection (r : Request) (q : Reply) (z y : ZoneState) (s t : ZoneShareState) : Type 0 where
  pub reply : q ≡ (step z.plain s.seat.worker r).reply
  pub zone : y ≡ asked s.seat.worker r z
  pub share : t ≡ answered_in z.plain r q s
  pub before : SharesIn z s
  pub after : SharesIn y t

-- the worker and the tie stay
pub record IsSameSeat (s t : ZoneShareState) : Type 0 where
  pub tie : t.seat.tie ≡ s.seat.tie
  pub worker : t.seat.worker ≡ s.seat.worker

-- why no block is given: the mark, the want of a block, or that no section can be made
abbrev pub IsAllocRefusal : Refused → Type 0
IsAllocRefusal e = (e ≡ BelowMark) ⊎ ((e ≡ NoBlock) ⊎ (e ≡ JournalFull))

-- why no pageblock is isolated, and why none is released: the zone has none of that number, its type, or that no section can be made
abbrev pub IsIsolateRefusal : Refused → Type 0
IsIsolateRefusal e = (e ≡ BadPageblock) ⊎ ((e ≡ AlreadyIsolated) ⊎ (e ≡ JournalFull))

abbrev pub IsReleaseRefusal : Refused → Type 0
IsReleaseRefusal e = (e ≡ BadPageblock) ⊎ ((e ≡ NotIsolated) ⊎ (e ≡ JournalFull))

-- why a run at a place is not given: it is not the zone's, one of its pages is not free, or that no section can be made
abbrev pub IsRunRefusal : Refused → Type 0
IsRunRefusal e = (e ≡ BadRun) ⊎ ((e ≡ NotFree) ⊎ (e ≡ JournalFull))

-- nothing was asked of the zone, and nothing changed
pub record IsLeft (z y : ZoneState) (s t : ZoneShareState) : Type 0 where
  pub zone : y ≡ z
  pub share : t ≡ s

-- a share of a seat with which no request was made, in a zone of so many pages
abbrev pub opening_share : SeatState → ℕ → ZoneShareState
opening_share seat pages = tied_by seat (opening_own seat.worker seat.part.base pages)
