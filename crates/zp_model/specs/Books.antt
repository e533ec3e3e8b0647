-- The books of a zone: the plain zone with the entries made so far, each worker's part of them, and what a request enters (this
-- profile). Pages in requests and replies are absolute.
use Rattle.std.specs.Prelude.{ℕ, ◌-◌, ◌==◌, ◌&&◌, Bool, List, [], ◌∷◌, ◌++◌, length, map, cond, leb, slice_set, Option, None, Some}
use Rattle.std.specs.List.{filter, list_all, range_with_len}
use Rattle.zp_model.specs.Entries.{Entry}
use Rattle.zp_model.specs.declared.request.Request.{Request}
use Rattle.zp_model.specs.declared.request.Reply.{Reply}
use Rattle.zp_model.specs.declared.migrate_type.MigrateType.{MigrateType}
use Rattle.zp_model.specs.Area.{kind_at}
use Rattle.zp_model.specs.Block.{head}
use Rattle.zp_model.specs.BlockSet.{some_below}
use Rattle.zp_model.specs.PageblockType.{noted_type}
use Rattle.zp_model.specs.Runs.{hand_out_run, run_freed}
use Rattle.zp_model.specs.Zone.{PlainZone, Holding, zone_opening, holding_at, is_of}
use Rattle.zp_model.specs.Step.{step}

pub record Books : Type 0 where
  pub plain : PlainZone
  pub entries : List Entry

-- what is one worker's: at each page the block out in its name that starts there, and the entries of its requests
pub record Part : Type 0 where
  -- the absolute number of the zone's first page
  pub base : ℕ
  pub blocks : List (Option Holding)
  pub entries : List Entry

-- a holding, where it is worker w's
abbrev pub only : ℕ → Option Holding → Option Holding
only w None = None
only w (Some x) = cond (x.worker == w) (Some x) None

abbrev pub own : ℕ → List (Option Holding) → List (Option Holding)
own w out = map (only w) out

abbrev pub made_by : ℕ → List Entry → List Entry
made_by w entries = filter (λ e. e.worker == w) entries

abbrev pub part : ℕ → Books → Part
part w b = record { base = b.plain.base; blocks = own w b.plain.out; entries = made_by w b.entries }

-- whether the block of order k at an absolute page is in worker w's part
abbrev pub has_block : ℕ → Part → ℕ → ℕ → Bool
has_block w s p k = leb s.base p && is_of w k (holding_at s.blocks (p - s.base))

-- whether page i of the zone, its first being 0, lies in a block of worker w's part. A block of order k has 2 to the k pages, so in a zone of n pages
-- its order is below n
abbrev pub has_page : ℕ → Part → ℕ → Bool
has_page w s i = some_below (λ k. is_of w k (holding_at s.blocks (head i k))) (length s.blocks)

-- whether each of n pages from an absolute page on, one at least, lies in such a block
unfoldable pub has_run : ℕ → Part → ℕ → ℕ → Bool
has_run w s p n = leb s.base p && leb 1 n && list_all (has_page w s) (range_with_len (p - s.base) n)

-- the entry that worker w's request makes
abbrev pub entry_of : PlainZone → ℕ → Request → Entry
entry_of z w r = record { worker = w; request = r; reply = (step z w r).reply }

-- worker w's request is entered
abbrev pub entered : ℕ → Request → Books → Books
entered w r b = record { plain = (step b.plain w r).zone; entries = b.entries ++ entry_of b.plain w r ∷ [] }

-- books with no entry yet
abbrev pub opened : PlainZone → Books
opened z = record { plain = z; entries = [] }

-- the books of no zone
abbrev pub blank : Books
blank = opened (zone_opening 0 0 0 0 0)

-- these pages are out as blocks of order 0
abbrev pub with_pages : ℕ → Holding → List ℕ → List (Option Holding) → List (Option Holding)
with_pages base x [] out = out
with_pages base x (p ∷ ps) out = with_pages base x ps (slice_set out (p - base) (Some x))

-- these pages are out no more
abbrev pub without_pages : ℕ → List ℕ → List (Option Holding) → List (Option Holding)
without_pages base [] out = out
without_pages base (p ∷ ps) out = without_pages base ps (slice_set out (p - base) None)

-- what worker w's request, answered so, does to its blocks out: those answered join them, those given back or posted leave
abbrev pub blocks_after : ℕ → ℕ → Request → Reply → List (Option Holding) → List (Option Holding)
blocks_after base w (Request.Alloc k t m) (Reply.Page p) out = slice_set out (p - base) (Some (record { order = k; kind = t; worker = w }))
blocks_after base w (Request.AllocLow k) (Reply.Block x) out = slice_set out (x.page - base) (Some (record { order = k; kind = x.kind; worker = w }))
blocks_after base w (Request.Free p k) Reply.Freed out = slice_set out (p - base) None
blocks_after base w (Request.Post p k to) Reply.Posted out = slice_set out (p - base) None
blocks_after base w Request.Collect (Reply.Block x) out = slice_set out (x.page - base) (Some (record { order = x.order; kind = x.kind; worker = w }))
blocks_after base w (Request.Refill t m n) (Reply.Pages ps) out = with_pages base (record { order = 0; kind = t; worker = w }) ps out
blocks_after base w (Request.Drain t ps) Reply.Drained out = without_pages base ps out
blocks_after base w r q out = out

-- the type of page i's pageblock, as it is noted of blocks
abbrev pub type_of_page : PlainZone → ℕ → MigrateType
type_of_page z i = noted_type (kind_at z.area.largest z.area.kinds i)

-- and what any of its requests does, in the zone z as it was: a run that is allocated joins them as the blocks of its cut, for the types of their pageblocks,
-- and one that is given back leaves what the blocks around its ends have beyond it
abbrev pub blocks_after_in : PlainZone → ℕ → ℕ → Request → Reply → List (Option Holding) → List (Option Holding)
blocks_after_in z base w (Request.AllocRun n a m) (Reply.Page p) out = (hand_out_run (record z { out = out }) w (type_of_page z) (p - base) n).out
blocks_after_in z base w (Request.AllocRunAt b n) (Reply.Page p) out = (hand_out_run (record z { out = out }) w (type_of_page z) (p - base) n).out
blocks_after_in z base w (Request.FreeRun p n) Reply.Freed out = (run_freed (record z { out = out }) w (p - base) n).out
blocks_after_in z base w r q out = blocks_after base w r q out

-- worker w's part, when its request is answered so
abbrev pub noted : ℕ → Request → Reply → Part → Part
noted w r q s =
    record {
      base = s.base;
      blocks = blocks_after s.base w r q s.blocks;
      entries = s.entries ++ (let e : Entry = record { worker = w; request = r; reply = q } in e) ∷ [];
    }

-- worker w's part, when any request of its is answered so in the zone z as it was
abbrev pub noted_in : PlainZone → ℕ → Request → Reply → Part → Part
noted_in z w r q s =
    record {
      base = s.base;
      blocks = blocks_after_in z s.base w r q s.blocks;
      entries = s.entries ++ (let e : Entry = record { worker = w; request = r; reply = q } in e) ∷ [];
    }
