-- What one worker has of a row of zones, without what ties it to them (this profile).
use Rattle.std.specs.Prelude.{ℕ, zero, suc, ◌+◌, ◌-◌, ◌==◌, Bool, true, false, List, [], ◌∷◌, ◌++◌, length, take, reverse, replicate, slice_set, slice_index_or, Option, None, Some, Result, Ok, Err, cond, ltb}
use Rattle.zp_model.specs.declared.migrate_type.MigrateType.{MigrateType}
use Rattle.zp_model.specs.declared.refused.Refused.{Refused}
use Rattle.zp_model.specs.declared.refused.Refused.TheVariants.{NotLent, ListFull, JournalFull}
use Rattle.zp_model.specs.Entries.{Entry}
use Rattle.zp_model.specs.declared.request.Request.{Request}
use Rattle.zp_model.specs.declared.request.Reply.{Reply}
use Rattle.zp_model.specs.MigrateType.{type_number, types_count}
use Rattle.zp_model.specs.Rows.{list_at}
use Rattle.zp_share.specs.declared.sections_made.TheConstants.{LAST_SECTION}
use Rattle.zp_share.specs.declared.page_use.PageUse.{PageUse}
use Rattle.zp_share.specs.declared.page_use.PageUse.TheVariants.{Away, Lent, Cached}
use Rattle.zp_model.specs.Zone.{PlainZone}
use Rattle.zp_share.specs.PageUses.{use_of, is_lent_as, is_lent_run, uses_after_in}

pub record SectionsState : Type 0 where
  -- how many were made, and the last one
  pub made : ℕ
  pub last : Option Entry

-- the last of so many sections, where there is one
abbrev pub last_made : ℕ → Entry → Option Entry
last_made zero e = None
last_made (suc n) e = Some e

-- what a worker has of one zone
pub record PlainZoneShare : Type 0 where
  pub worker : ℕ
  -- the absolute number of the zone's first page
  pub base : ℕ
  -- what each page of the zone is to the worker
  pub uses : List PageUse
  -- for each type the worker's list of pages, the front first
  pub cached : List (List ℕ)
  pub sections : SectionsState

-- what a worker has of each zone, with the settings of its lists
pub record PlainShare : Type 0 where
  pub batch : ℕ
  pub high_len : ℕ
  pub zones : List PlainZoneShare

-- what an absolute page is to the worker
abbrev pub used_as : PlainZoneShare → ℕ → PageUse
used_as s p = use_of s.base s.uses p

-- whether the block of order k at an absolute page is lent
abbrev pub lends : PlainZoneShare → ℕ → ℕ → Bool
lends s p k = is_lent_as k (used_as s p)

-- whether the block that a request names, or each page of a run that it frees, is lent
abbrev pub lends_for : Request → PlainZoneShare → Bool
lends_for (Request.Free p k) s = lends s p k
lends_for (Request.Post p k to) s = lends s p k
lends_for (Request.FreeRun p n) s = is_lent_run s.base s.uses p n
lends_for r s = true

-- why no section is made, if none is: 20 where what is named is not lent, else 30 where there is no room for one more
abbrev pub refusal : Bool → Bool → Option Refused
refusal false full = Some NotLent
refusal true true = Some JournalFull
refusal true false = None

abbrev pub refusal_of : Request → PlainZoneShare → Option Refused
refusal_of r s = refusal (lends_for r s) (s.sections.made == LAST_SECTION)

-- the answer where there is no room
abbrev pub refused_full : Request → PlainZoneShare → Reply
refused_full r s = Reply.Refused (cond (lends_for r s) JournalFull NotLent)

-- the type of a page's block, where it is lent with order k
abbrev pub lent_kind : PageUse → ℕ → Option MigrateType
lent_kind (Lent j t) k = cond (j == k) (Some t) None
lent_kind u k = None

-- the list of a type
abbrev pub list_of : PlainZoneShare → MigrateType → List ℕ
list_of s t = list_at s.cached (type_number t)

-- the n pages at the back of a list, the last one first, and the list without them
abbrev pub back : ℕ → List ℕ → List ℕ
back n xs = take n (reverse xs)

abbrev pub without_back : ℕ → List ℕ → List ℕ
without_back n xs = take (length xs - n) xs

-- what a request, answered so, makes of the lists: a refill's pages are put on in front, and those of a drain leave the back
abbrev pub lists_after : Request → Reply → List (List ℕ) → List (List ℕ)
lists_after (Request.Refill t m n) (Reply.Pages ps) ls = slice_set ls (type_number t) (ps ++ list_at ls (type_number t))
lists_after (Request.Drain t ps) Reply.Drained ls = slice_set ls (type_number t) (without_back (length ps) (list_at ls (type_number t)))
lists_after r q ls = ls

-- the share, when its request is answered so and leaves its pages these uses: one section more
abbrev pub share_after : List PageUse → Request → Reply → PlainZoneShare → PlainZoneShare
share_after uses r q s =
    record {
      worker = s.worker;
      base = s.base;
      uses = uses;
      cached = lists_after r q s.cached;
      sections = record { made = s.sections.made + 1; last = Some (record { worker = s.worker; request = r; reply = q }) };
    }

-- and when that was in the zone z as it was, whatever its request is for
abbrev pub share_after_in : PlainZone → Request → Reply → PlainZoneShare → PlainZoneShare
share_after_in z r q s = share_after (uses_after_in z s.base s.worker r q s.uses) r q s

-- the front of a type's list is lent
abbrev pub taken_at : MigrateType → List ℕ → PlainZoneShare → PlainZoneShare
taken_at t [] s = s
taken_at t (p ∷ ps) s = record s { uses = slice_set s.uses (p - s.base) (Lent 0 t); cached = slice_set s.cached (type_number t) ps }

abbrev pub taken : MigrateType → PlainZoneShare → PlainZoneShare
taken t s = taken_at t (list_of s t) s

-- a lent page goes to the front of its type's list
abbrev pub put : ℕ → MigrateType → PlainZoneShare → PlainZoneShare
put p t s = record s { uses = slice_set s.uses (p - s.base) (Cached t); cached = slice_set s.cached (type_number t) (p ∷ list_of s t) }

pub record Putting : Type 0 where
  pub answer : Result (Unit {0}) Refused
  pub share : PlainZoneShare

-- a page is put on its list: only where it is lent with order 0, and its list has room
abbrev pub putting_as : PageUse → ℕ → ℕ → PlainZoneShare → Putting
putting_as (Lent k t) p high s =
    cond (k == 0)
    (cond (ltb (length (list_of s t)) high) (record { answer = Ok tt; share = put p t s }) (record { answer = Err ListFull; share = s }))
    (record { answer = Err NotLent; share = s })
putting_as u p high s = record { answer = Err NotLent; share = s }

abbrev pub putting : PlainZoneShare → ℕ → ℕ → Putting
putting s p high = putting_as (used_as s p) p high s

-- before the first section: no block is lent, and all lists are empty
abbrev pub opening_own : ℕ → ℕ → ℕ → PlainZoneShare
opening_own worker base pages =
    record { worker = worker; base = base; uses = replicate pages Away; cached = replicate types_count []; sections = record { made = 0; last = None } }

-- past the end of a row there is nothing
abbrev pub no_own : PlainZoneShare
no_own = opening_own 0 0 0

-- what the share has of zone i
abbrev pub own_at : PlainShare → ℕ → PlainZoneShare
own_at s i = slice_index_or s.zones i no_own

abbrev pub with_own : ℕ → PlainZoneShare → PlainShare → PlainShare
with_own i x s = record s { zones = slice_set s.zones i x }
