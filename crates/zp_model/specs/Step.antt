-- The step of a plain zone: what a worker's request is answered, and what it leaves. Pages in requests and replies are absolute.
use Rattle.std.specs.Prelude.{ℕ, suc, zero, ◌+◌, ◌-◌, ◌&&◌, leb, List, [], ◌∷◌, ◌++◌, cond, Option, None, Some, slice_get, slice_set}
use Rattle.zp_model.specs.declared.migrate_type.MigrateType.{MigrateType}
use Rattle.zp_model.specs.declared.mark.Mark.{Mark}
use Rattle.zp_model.specs.declared.refused.Refused.{Refused}
use Rattle.zp_model.specs.declared.refused.Refused.TheVariants.{BelowMark, NoBlock, NothingPosted, BadPageblock, AlreadyIsolated, NotIsolated, BadRun, NotFree}
use Rattle.zp_model.specs.declared.request.Request.{Request}
use Rattle.zp_model.specs.declared.request.Reply.{Reply}
use Rattle.zp_model.specs.declared.pageblock_type.PageblockType.{PageblockType}
use Rattle.zp_model.specs.declared.pageblock_type.PageblockType.TheVariants.{Isolate}
use Rattle.zp_model.specs.PageblockType.{is_isolate, noted_type, pageblock_type}
use Rattle.zp_model.specs.Area.{kind_at}
use Rattle.zp_model.specs.Choose.{Chosen, choose}
use Rattle.zp_model.specs.Take.{taken, leave, give, retype, take_low_answer}
use Rattle.zp_model.specs.Zone.{PlainZone, Holding, PostedBlock, hand_out, take_back, holding_at, pages_of, posted_to}
use Rattle.zp_model.specs.Mark.{passes, pages_at_hand}
use Rattle.zp_model.specs.Runs.{has_pages, is_above_by, is_run, lowest_run, run_freed, run_taken}

pub record Outcome : Type 0 where
  pub reply : Reply
  pub zone : PlainZone

-- a refusal leaves the zone as it was
abbrev pub refuse : PlainZone → Refused → Outcome
refuse z r = record { reply = Reply.Refused r; zone = z }

-- a block of order k for type t, after the mark's test
abbrev pub alloc_chosen : PlainZone → ℕ → ℕ → MigrateType → Option Chosen → Outcome
alloc_chosen z w k t None = refuse z NoBlock
alloc_chosen z w k t (Some c) =
    record { reply = Reply.Page (z.base + c.head); zone = hand_out (record z { area = taken z.area k t (Some c) }) w c.head k t }

unfoldable pub alloc : PlainZone → ℕ → ℕ → MigrateType → Mark → Outcome
alloc z w k t m = cond (passes z k m) (alloc_chosen z w k t (choose z.area k t)) (refuse z BelowMark)

-- the block's type is its pageblock's
abbrev pub alloc_low_at : PlainZone → ℕ → ℕ → Option ℕ → Outcome
alloc_low_at z w k None = refuse z NoBlock
alloc_low_at z w k (Some h) =
    record {
      reply = Reply.Block (record { page = z.base + h; order = k; kind = noted_type (kind_at z.area.largest z.area.kinds h) });
      zone = hand_out (record z { area = leave z.area h k }) w h k (noted_type (kind_at z.area.largest z.area.kinds h));
    }

-- the block (h, k) is out no more, and its pages are free
abbrev pub freed : PlainZone → ℕ → ℕ → PlainZone
freed z h k = take_back (record z { area = give z.area h k }) h

-- a block goes to the end of worker w's list
abbrev pub post_to : PlainZone → ℕ → PostedBlock → PlainZone
post_to z w p = record z { posted = slice_set z.posted w (posted_to z w ++ p ∷ []) }

-- the block out at h is out no more, and is posted to w
abbrev pub handed_on : PlainZone → ℕ → ℕ → Option Holding → PlainZone
handed_on z w h None = z
handed_on z w h (Some x) = post_to (take_back z h) w (record { head = h; order = x.order; kind = x.kind })

abbrev pub collected : PlainZone → ℕ → List PostedBlock → Outcome
collected z w [] = refuse z NothingPosted
collected z w (p ∷ ps) =
    record {
      reply = Reply.Block (record { page = z.base + p.head; order = p.order; kind = p.kind });
      zone = hand_out (record z { posted = slice_set z.posted w ps }) w p.head p.order p.kind;
    }

-- what a refill answers that has got these pages, where one request more is answered so
abbrev pub refill_end : List ℕ → Outcome → Outcome
refill_end [] o = o
refill_end (p ∷ ps) o = record { reply = Reply.Pages (p ∷ ps); zone = o.zone }

abbrev pub page_of : Reply → Option ℕ
page_of (Reply.Page p) = Some p
page_of _ = None

-- a page at a time, up to the first refusal
abbrev pub refill : PlainZone → ℕ → MigrateType → Mark → List ℕ → ℕ → Outcome
refill z w t m got zero = record { reply = Reply.Pages got; zone = z }
refill z w t m got (suc n) =
    let o = alloc z w 0 t m in
    elim (page_of o.reply) [ Some p ↦ refill o.zone w t m (got ++ p ∷ []) n | None ↦ refill_end got o ]

abbrev pub drained : PlainZone → List ℕ → PlainZone
drained z [] = z
drained z (p ∷ ps) = drained (freed z (p - z.base) 0) ps

-- pageblock b gets a type
abbrev pub with_kind : PlainZone → ℕ → PageblockType → PlainZone
with_kind z b t = record z { area = retype z.area b t }

-- pageblock b, which has this type now, or is none of the zone's, is isolated
abbrev pub isolated : PlainZone → ℕ → Option PageblockType → Outcome
isolated z b None = refuse z BadPageblock
isolated z b (Some now) = cond (is_isolate now) (refuse z AlreadyIsolated) (record { reply = Reply.Isolated; zone = with_kind z b Isolate })

-- and it is released, as one for requests of type t
abbrev pub released : PlainZone → ℕ → MigrateType → Option PageblockType → Outcome
released z b t None = refuse z BadPageblock
released z b t (Some now) =
    cond (is_isolate now) (record { reply = Reply.Released; zone = with_kind z b (pageblock_type t) }) (refuse z NotIsolated)

-- the run at h, where there is one, is out in w's name
abbrev pub alloc_run_found : PlainZone → ℕ → ℕ → Option ℕ → Outcome
alloc_run_found z w n None = refuse z NoBlock
alloc_run_found z w n (Some h) = record { reply = Reply.Page (z.base + h); zone = run_taken z w h n }

-- the lowest run of n pages that is aligned to 2 to the a pages, after the mark's test
abbrev pub alloc_run : PlainZone → ℕ → ℕ → ℕ → Mark → Outcome
alloc_run z w n a m = cond (is_above_by z.min (pages_at_hand z) n m) (alloc_run_found z w n (lowest_run z n a)) (refuse z BelowMark)

-- the run of n pages at page p, in isolated pageblocks too, held to no mark
abbrev pub alloc_run_at : PlainZone → ℕ → ℕ → ℕ → Outcome
alloc_run_at z w p n =
    cond (leb z.base p && is_run (pages_of z) (p - z.base) n)
    (cond (has_pages z.area.free (p - z.base) n) (record { reply = Reply.Page p; zone = run_taken z w (p - z.base) n }) (refuse z NotFree))
    (refuse z BadRun)

abbrev pub step : PlainZone → ℕ → Request → Outcome
step z w (Request.Alloc k t m) = alloc z w k t m
step z w (Request.AllocLow k) = alloc_low_at z w k (take_low_answer z.area k)
step z w (Request.Free p k) = record { reply = Reply.Freed; zone = freed z (p - z.base) k }
step z w (Request.Post p k to) =
    record { reply = Reply.Posted; zone = handed_on z to (p - z.base) (holding_at z.out (p - z.base)) }
step z w Request.Collect = collected z w (posted_to z w)
step z w (Request.Refill t m n) = refill z w t m [] n
step z w (Request.Drain t ps) = record { reply = Reply.Drained; zone = drained z ps }
step z w (Request.Isolate b) = isolated z b (slice_get z.area.kinds b)
step z w (Request.Release b t) = released z b t (slice_get z.area.kinds b)
step z w (Request.AllocRun n a m) = alloc_run z w n a m
step z w (Request.AllocRunAt p n) = alloc_run_at z w p n
step z w (Request.FreeRun p n) = record { reply = Reply.Freed; zone = run_freed z w (p - z.base) n }
