-- What each page of a zone is to one worker's share of it (this profile).
use Rattle.std.specs.Prelude.{ℕ, ◌≡◌, ◌≤◌, ◌<◌, length, ◌+◌, ◌-◌, ◌^◌, ◌==◌, ◌&&◌, Bool, true, false, List, [], ◌∷◌, cond, leb, map, slice_index_or, slice_set, Option, None, Some, Result, Ok, Err}
use Rattle.std.specs.List.{list_all, range_with_len}
use Rattle.zp_model.specs.declared.constants.TheConstants.{ORDERS}
use Rattle.zp_model.specs.declared.request.Request.{Request}
use Rattle.zp_model.specs.declared.request.Reply.{Reply}
use Rattle.zp_model.specs.MigrateType.{type_number}
use Rattle.zp_model.specs.declared.migrate_type.MigrateType.{MigrateType}
use Rattle.zp_model.specs.Block.{head, in_run}
use Rattle.zp_model.specs.BlockSet.{some_below}
use Rattle.zp_model.specs.declared.refused.Refused.{Refused}
use Rattle.zp_model.specs.Books.{blocks_after_in, type_of_page}
use Rattle.zp_model.specs.Runs.{hand_out_run}
use Rattle.zp_laws.specs.RunsByBlocks.{part_freed}
use Rattle.zp_model.specs.Zone.{PlainZone, Holding, holding_at}
use Rattle.zp_share.specs.declared.page_use.PageUse.{PageUse}
use Rattle.zp_share.specs.declared.page_use.PageUse.TheVariants.{Away, Lent, Cached}

pub record UsesState : Type 0 where
  -- the absolute number of the zone's first page
  pub base : ℕ
  pub uses : List PageUse

-- the absolute page is one of the zone
pub record IsPlace (u : UsesState) (p : ℕ) : Type 0 where
  pub from : u.base ≤ p
  pub below : p - u.base < length u.uses

abbrev pub use_at : List PageUse → ℕ → PageUse
use_at us h = slice_index_or us h Away

-- what an absolute page is, in a zone with this base
abbrev pub use_of : ℕ → List PageUse → ℕ → PageUse
use_of base us p = cond (leb base p) (use_at us (p - base)) Away

-- the block out in worker w's name that a use stands for
abbrev pub held : ℕ → PageUse → Option Holding
held w Away = None
held w (Lent k t) = Some (record { order = k; kind = t; worker = w })
held w (Cached t) = Some (record { order = 0; kind = t; worker = w })

abbrev pub is_lent_as : ℕ → PageUse → Bool
is_lent_as k Away = false
is_lent_as k (Lent j t) = j == k
is_lent_as k (Cached t) = false

-- whether a page with this use stands on list number r
abbrev pub is_cached_as : ℕ → PageUse → Bool
is_cached_as r Away = false
is_cached_as r (Lent j t) = false
is_cached_as r (Cached t) = type_number t == r

-- these pages, absolute, get this use
abbrev pub all_as : ℕ → PageUse → List ℕ → List PageUse → List PageUse
all_as base u [] us = us
all_as base u (p ∷ ps) us = all_as base u ps (slice_set us (p - base) u)

-- whether page i of the zone, its first being 0, lies in a lent block
unfoldable pub is_lent_page : List PageUse → ℕ → Bool
is_lent_page us i = some_below (λ k. is_lent_as k (use_at us (head i k))) ORDERS

-- whether n pages from an absolute page on, one at least, are of the zone, and each of them lies in a lent block
unfoldable pub is_lent_run : ℕ → List PageUse → ℕ → ℕ → Bool
is_lent_run base us p n = leb base p && leb 1 n && leb (p - base + n) (length us) && list_all (is_lent_page us) (range_with_len (p - base) n)

-- n pages from an absolute page on are the zone's, and one lent block, of order k
pub record IsOneBlock (base : ℕ) (us : List PageUse) (p n k : ℕ) : Type 0 where
  pub from : base ≤ p
  pub inside : p - base + n ≤ length us
  pub size : 2 ^ k ≡ n
  pub aligned : head (p - base) k ≡ p - base
  pub lent : is_lent_as k (use_at us (p - base)) ≡ true

-- what a page is where this block is out there in the worker's name: a page on a list stays on it, and any other block out is lent
abbrev pub lent_as : PageUse → Option Holding → PageUse
lent_as (Cached t) o = Cached t
lent_as u None = Away
lent_as u (Some x) = Lent x.order x.kind

-- the same pages are cached, for the same types
abbrev pub HasSameCached : List PageUse → List PageUse → Type 0
HasSameCached us vs = (r g : ℕ) → is_cached_as r (use_at vs g) ≡ is_cached_as r (use_at us g)

-- none of n pages from page h on is cached
abbrev pub AreUncached : List PageUse → ℕ → ℕ → Type 0
AreUncached us h n = (r g : ℕ) → h ≤ g → g < h + n → is_cached_as r (use_at us g) ≡ false

-- n pages from page h on are lent as the blocks of the run's cut, each for the type of its head, where m is the largest order: the blocks out in any worker's
-- name that the uses stand for change as those of a zone where the run goes out in that name
pub record IsCutLent (m : ℕ) (kind : ℕ → MigrateType) (us vs : List PageUse) (h n : ℕ) : Type 0 where
  pub pages : length vs ≡ length us
  pub cached : HasSameCached us vs
  pub lent : (i : ℕ) → h ≤ i → i < h + n → is_lent_page vs i ≡ true
  pub blocks : (z : PlainZone) (w : ℕ) → z.area.largest ≡ m → map (held w) vs ≡ (hand_out_run (record z { out = map (held w) us }) w kind h n).out

-- n pages from an absolute page on are the zone's, and on no list
pub record IsRunOff (u : UsesState) (p n : ℕ) : Type 0 where
  pub from : u.base ≤ p
  pub inside : p - u.base + n ≤ length u.uses
  pub uncached : AreUncached u.uses (p - u.base) n

-- a run of n pages that was asked for in zone z is lent, where it was got
abbrev pub IsLentWhereGot : PlainZone → ℕ → Result ℕ Refused → UsesState → UsesState → Type 0
IsLentWhereGot z n (Ok p) u v = IsCutLent z.area.largest (type_of_page z) u.uses v.uses (p - u.base) n
IsLentWhereGot z n (Err e) u v = v.uses ≡ u.uses

-- each lent block lies in the zone, and none of its pages is cached
abbrev pub AreWholeBlocks : List PageUse → Type 0
AreWholeBlocks us = (g k : ℕ) → is_lent_as k (use_at us g) ≡ true → (g + 2 ^ k ≤ length us) × AreUncached us g (2 ^ k)

-- of n lent pages from page h on the first c, which are those of one lent block, are the worker's no more, and what the block has before and behind them
-- stays lent
pub record IsPartFreed (m : ℕ) (us vs : List PageUse) (h n c : ℕ) : Type 0 where
  pub first : ℕ
  pub order : ℕ
  pub kind : MigrateType
  pub was : use_at us first ≡ Lent order kind
  pub around : in_run first order h ≡ true
  pub some : 1 ≤ c
  pub most : c ≤ n
  pub within : h + c ≤ first + 2 ^ order
  pub ends : c < n → h + c ≡ first + 2 ^ order
  pub pages : length vs ≡ length us
  pub cached : HasSameCached us vs
  pub blocks : (z : PlainZone) (w : ℕ) → z.area.largest ≡ m → z.out ≡ map (held w) us →
      map (held w) vs ≡ (part_freed z w first (record { order = order; kind = kind; worker = w }) h c).out

-- the pages, where these blocks are out in the worker's name
unfoldable pub uses_by : List PageUse → List (Option Holding) → List PageUse
uses_by us out = map (λ g. lent_as (use_at us g) (holding_at out g)) (range_with_len 0 (length us))

-- what a request, answered so, makes of the pages
abbrev pub uses_after : ℕ → Request → Reply → List PageUse → List PageUse
uses_after base (Request.Alloc k t m) (Reply.Page p) us = slice_set us (p - base) (Lent k t)
uses_after base (Request.AllocLow k) (Reply.Block x) us = slice_set us (x.page - base) (Lent k x.kind)
uses_after base (Request.Free p k) Reply.Freed us = slice_set us (p - base) Away
uses_after base (Request.Post p k to) Reply.Posted us = slice_set us (p - base) Away
uses_after base Request.Collect (Reply.Block x) us = slice_set us (x.page - base) (Lent x.order x.kind)
uses_after base (Request.Refill t m n) (Reply.Pages ps) us = all_as base (Cached t) ps us
uses_after base (Request.Drain t ps) Reply.Drained us = all_as base Away ps us
uses_after base r q us = us

-- what any request of worker w does, in the zone z as it was: what a run makes of them is what it makes of the blocks out in the worker's name
abbrev pub uses_after_in : PlainZone → ℕ → ℕ → Request → Reply → List PageUse → List PageUse
uses_after_in z base w (Request.AllocRun n a m) (Reply.Page p) us = uses_by us (blocks_after_in z base w (Request.AllocRun n a m) (Reply.Page p) (map (held w) us))
uses_after_in z base w (Request.AllocRunAt b n) (Reply.Page p) us = uses_by us (blocks_after_in z base w (Request.AllocRunAt b n) (Reply.Page p) (map (held w) us))
uses_after_in z base w (Request.FreeRun p n) Reply.Freed us = uses_by us (blocks_after_in z base w (Request.FreeRun p n) Reply.Freed (map (held w) us))
uses_after_in z base w r q us = uses_after base r q us
