-- Runs, worked by hand: what the definitions answer, list and note as out for small zones and for one cut. All pageblocks are Movable, and each proof computes.
use Rattle.std.specs.Prelude.{ℕ, ◌+◌, ◌≡◌, refl, true, false, List, [], ◌∷◌, ◌++◌, map, Option, None, Some}
use Rattle.std.specs.List.{range_with_len}
use Rattle.zp_model.specs.declared.mark.Mark.TheVariants.{Low, Any}
use Rattle.zp_model.specs.declared.migrate_type.MigrateType.{MigrateType}
use Rattle.zp_model.specs.declared.migrate_type.MigrateType.TheVariants.{Movable, Unmovable}
use Rattle.zp_model.specs.declared.pageblock_type.PageblockType.TheVariants as pageblock
use Rattle.zp_model.specs.Block.{has_run, is_max, size}
use Rattle.zp_model.specs.Area.{available, belongs, free_list, opening, settle, settled}
use Rattle.zp_model.specs.declared.refused.Refused.TheVariants.{BadRun, BelowMark, NoBlock, NotFree}
use Rattle.zp_model.specs.declared.request.Reply.{Reply}
use Rattle.zp_model.specs.declared.request.Request.{Request}
use Rattle.zp_model.specs.Step.{Outcome, alloc_run, alloc_run_at, step, with_kind}
use Rattle.zp_model.specs.Take.{retype}
use Rattle.zp_model.specs.Zone.{PlainZone, Holding, zone_opening}
use Rattle.zp_model.specs.Runs.{cut, give_run, has_pages, is_lent_run, leave_run, lowest_run, may_free_run, with_pages, without_pages}

-- 100 pages from page 1000 on
cut_of_hundred : cut 10 1000 100 ≡ (1000, 3) ∷ (1008, 4) ∷ (1024, 6) ∷ (1088, 3) ∷ (1096, 2) ∷ []
cut_of_hundred = refl

-- the blocks out, a head and an order each
abbrev out_at : ℕ → Option Holding → List (ℕ × ℕ)
out_at h None = []
out_at h (Some x) = (h, x.order) ∷ []

abbrev blocks_out : ℕ → List (Option Holding) → List (ℕ × ℕ)
blocks_out h [] = []
blocks_out h (x ∷ xs) = out_at h x ++ blocks_out (h + 1) xs

-- their types
abbrev type_out : Option Holding → List MigrateType
type_out None = []
type_out (Some x) = x.kind ∷ []

abbrev blocks_typed : List (Option Holding) → List MigrateType
blocks_typed [] = []
blocks_typed (x ∷ xs) = type_out x ++ blocks_typed xs

-- the free lists of Movable pageblocks, order 0 first
abbrev lists_of : PlainZone → List (List ℕ)
lists_of z = map (λ k. free_list z.area k pageblock.Movable) (range_with_len 0 4)

-- what is seen of an answer: the reply, the free lists of orders 0 to 3, and the blocks out
pub record Seen : Type 0 where
  pub reply : Reply
  pub lists : List (List ℕ)
  pub out : List (ℕ × ℕ)

abbrev seen : Outcome → Seen
seen o = record { reply = o.reply; lists = lists_of o.zone; out = blocks_out 0 o.zone.out }

-- a zone of 8 pages, of which 2 are kept back
eight : PlainZone
eight = zone_opening 10 0 8 2 1

six : Outcome
six = alloc_run eight 0 6 0 Low

six_seen : seen six ≡ record { reply = Reply.Page 0; lists = [] ∷ (6 ∷ []) ∷ [] ∷ [] ∷ []; out = (0, 2) ∷ (4, 1) ∷ [] }
unfolding eight six has_run is_max settle settled belongs opening available size has_pages leave_run lowest_run without_pages
six_seen = refl

five_more : (alloc_run six.zone 0 5 0 Low).reply ≡ Reply.Refused BelowMark
unfolding eight six has_run is_max settle settled belongs opening available size has_pages leave_run lowest_run without_pages
five_more = refl

three_more : (alloc_run six.zone 0 3 0 Any).reply ≡ Reply.Refused NoBlock
unfolding eight six has_run is_max settle settled belongs opening available size has_pages leave_run lowest_run without_pages
three_more = refl

-- a zone of 13 pages: one run after another
thirteen : PlainZone
thirteen = zone_opening 10 0 13 0 1

first : Outcome
first = alloc_run_at thirteen 0 5 6

first_seen : seen first ≡ record { reply = Reply.Page 5; lists = (11 ∷ 4 ∷ 12 ∷ []) ∷ [] ∷ (0 ∷ []) ∷ [] ∷ []; out = (5, 0) ∷ (6, 1) ∷ (8, 1) ∷ (10, 0) ∷ [] }
unfolding thirteen first has_run is_max settle settled belongs opening has_pages leave_run without_pages
first_seen = refl

past_end : (alloc_run_at first.zone 0 8 6).reply ≡ Reply.Refused BadRun
unfolding thirteen first has_run is_max settle settled belongs opening has_pages leave_run without_pages
past_end = refl

no_page : (alloc_run_at first.zone 0 0 0).reply ≡ Reply.Refused BadRun
unfolding thirteen first has_run is_max settle settled belongs opening has_pages leave_run without_pages
no_page = refl

taken : (alloc_run_at first.zone 0 4 2).reply ≡ Reply.Refused NotFree
unfolding thirteen first has_run is_max settle settled belongs opening has_pages leave_run without_pages
taken = refl

second : Outcome
second = alloc_run first.zone 0 3 0 Any

second_seen : seen second ≡ record {
  reply = Reply.Page 0;
  lists = (3 ∷ 11 ∷ 4 ∷ 12 ∷ []) ∷ [] ∷ [] ∷ [] ∷ [];
  out = (0, 1) ∷ (2, 0) ∷ (5, 0) ∷ (6, 1) ∷ (8, 1) ∷ (10, 0) ∷ [];
}
unfolding thirteen first second has_run is_max settle settled belongs opening available size has_pages leave_run lowest_run without_pages
second_seen = refl

again : (alloc_run second.zone 0 3 0 Any).reply ≡ Reply.Refused NoBlock
unfolding thirteen first second has_run is_max settle settled belongs opening available size has_pages leave_run lowest_run without_pages
again = refl

third : Outcome
third = alloc_run second.zone 0 2 0 Any

third_seen : seen third ≡ record {
  reply = Reply.Page 3;
  lists = (11 ∷ 12 ∷ []) ∷ [] ∷ [] ∷ [] ∷ [];
  out = (0, 1) ∷ (2, 0) ∷ (3, 0) ∷ (4, 0) ∷ (5, 0) ∷ (6, 1) ∷ (8, 1) ∷ (10, 0) ∷ [];
}
unfolding thirteen first second third has_run is_max settle settled belongs opening available size has_pages leave_run lowest_run without_pages
third_seen = refl

lent : may_free_run third.zone 0 0 9 ≡ true
unfolding thirteen first second third has_run is_max settle settled belongs opening available size has_pages leave_run lowest_run without_pages is_lent_run
lent = refl

fourth : Outcome
fourth = step third.zone 0 (Request.FreeRun 0 9)

fourth_seen : seen fourth ≡ record { reply = Reply.Freed; lists = (8 ∷ 11 ∷ 12 ∷ []) ∷ [] ∷ [] ∷ (0 ∷ []) ∷ []; out = (9, 0) ∷ (10, 0) ∷ [] }
unfolding thirteen first second third fourth has_run is_max settle settled belongs opening available size has_pages give_run leave_run lowest_run with_pages without_pages
fourth_seen = refl

-- what is free is lent to nobody
not_lent : may_free_run fourth.zone 0 2 5 ≡ false
unfolding thirteen first second third fourth has_run is_max settle settled belongs opening available size has_pages give_run leave_run lowest_run with_pages without_pages is_lent_run
not_lent = refl

-- a zone of 4,096 pages
large : PlainZone
large = zone_opening 10 0 4096 0 2

hundred : Outcome
hundred = alloc_run_at large 0 1000 100

hundred_reply : hundred.reply ≡ Reply.Page 1000
unfolding large hundred settle opening has_pages leave_run
hundred_reply = refl

hundred_out : blocks_out 0 hundred.zone.out ≡ (1000, 3) ∷ (1008, 4) ∷ (1024, 6) ∷ (1088, 3) ∷ (1096, 2) ∷ []
unfolding large hundred settle opening has_pages leave_run
hundred_out = refl

-- one of its pages is not free
last_again : (alloc_run_at hundred.zone 0 1099 1).reply ≡ Reply.Refused NotFree
unfolding large hundred settle opening has_pages leave_run without_pages
last_again = refl

-- 100 pages from page 40 on, and 4 behind them, of 256
four : Outcome
four = alloc_run_at (alloc_run_at (zone_opening 10 0 256 0 2) 0 40 100).zone 0 140 4

four_seen : four.reply ≡ Reply.Page 140
unfolding four settle opening has_pages leave_run without_pages
four_seen = refl

four_out : blocks_out 0 four.zone.out ≡ (40, 3) ∷ (48, 4) ∷ (64, 6) ∷ (128, 3) ∷ (136, 2) ∷ (140, 2) ∷ []
unfolding four settle opening has_pages leave_run without_pages
four_out = refl

-- part after part comes back: what is left of the blocks stays out
freed : PlainZone → List (ℕ × ℕ) → PlainZone
freed z [] = z
freed z (r ∷ rs) = freed (step z 0 (Request.FreeRun r.0 r.1)).zone rs

middle_out : blocks_out 0 (freed four.zone ((60, 8) ∷ [])).out
    ≡ (40, 3) ∷ (48, 3) ∷ (56, 2) ∷ (68, 2) ∷ (72, 3) ∷ (80, 4) ∷ (96, 5) ∷ (128, 3) ∷ (136, 2) ∷ (140, 2) ∷ []
unfolding four freed settle opening has_pages give_run leave_run without_pages
middle_out = refl

-- page 70 is lent to worker 0 and to no other
own_page : may_free_run (freed four.zone ((60, 8) ∷ [])) 0 70 1 ≡ true
unfolding four freed settle opening has_pages give_run leave_run without_pages is_lent_run
own_page = refl

other_worker : may_free_run (freed four.zone ((60, 8) ∷ [])) 1 70 1 ≡ false
unfolding four freed settle opening has_pages give_run leave_run without_pages is_lent_run
other_worker = refl

low_out : blocks_out 0 (freed four.zone ((60, 8) ∷ (40, 8) ∷ (48, 12) ∷ [])).out
    ≡ (68, 2) ∷ (72, 3) ∷ (80, 4) ∷ (96, 5) ∷ (128, 3) ∷ (136, 2) ∷ (140, 2) ∷ []
unfolding four freed settle opening has_pages give_run leave_run without_pages
low_out = refl

all_out : blocks_out 0 (freed four.zone ((60, 8) ∷ (40, 8) ∷ (48, 12) ∷ (68, 76) ∷ [])).out ≡ []
unfolding four freed settle opening has_pages give_run leave_run without_pages
all_out = refl

-- a zone of 16 pages with pageblocks of 4: a run that is aligned, and one in an isolated pageblock
sixteen : PlainZone
sixteen = (alloc_run_at (zone_opening 2 1024 16 0 1) 0 1029 1).zone

aligned : Outcome
aligned = alloc_run sixteen 0 8 3 Low

aligned_seen : seen aligned ≡ record { reply = Reply.Page 1032; lists = (4 ∷ []) ∷ (6 ∷ []) ∷ (0 ∷ []) ∷ [] ∷ []; out = (5, 0) ∷ (8, 2) ∷ (12, 2) ∷ [] }
unfolding sixteen aligned has_run is_max settle settled belongs opening available size has_pages leave_run lowest_run without_pages
aligned_seen = refl

-- the zone's base is 1024: it has no page with a multiple of 2048, though its first page is free
no_multiple : (alloc_run aligned.zone 0 1 11 Low).reply ≡ Reply.Refused NoBlock
unfolding sixteen aligned has_run is_max settle settled belongs opening available size has_pages leave_run lowest_run without_pages
no_multiple = refl

first_multiple : (alloc_run aligned.zone 0 1 10 Low).reply ≡ Reply.Page 1024
unfolding sixteen aligned has_run is_max settle settled belongs opening available size has_pages leave_run lowest_run without_pages
first_multiple = refl

-- pageblock 0 is isolated: no lowest run lies there, and a run at a place may
apart : PlainZone
apart = with_kind aligned.zone 0 pageblock.Isolate

two_low : (alloc_run apart 0 2 0 Low).reply ≡ Reply.Page 1030
unfolding sixteen aligned apart has_run is_max settle settled belongs opening available retype size has_pages leave_run lowest_run without_pages
two_low = refl

two_at : seen (alloc_run_at apart 0 1025 2) ≡ record { reply = Reply.Page 1025; lists = (4 ∷ []) ∷ (6 ∷ []) ∷ [] ∷ [] ∷ []; out = (1, 0) ∷ (2, 0) ∷ (5, 0) ∷ (8, 2) ∷ (12, 2) ∷ [] }
unfolding sixteen aligned apart has_run is_max settle settled belongs opening available retype size has_pages leave_run lowest_run without_pages
two_at = refl

-- a block has the type of its pageblock: of Unmovable ones in pageblock 0, over which the run passes, and Movable in the next
typed : PlainZone
typed = with_kind (zone_opening 2 0 16 0 1) 0 pageblock.Unmovable

types_out : blocks_typed (alloc_run_at typed 0 2 4).zone.out ≡ Unmovable ∷ Movable ∷ []
unfolding typed settle opening retype has_pages leave_run
types_out = refl

-- what is left of a block keeps the type that it had, whatever its pageblock's is then
types_left : blocks_typed (freed (with_kind (alloc_run_at typed 0 0 8).zone 0 pageblock.Reclaimable) ((1, 6) ∷ [])).out ≡ Unmovable ∷ Movable ∷ []
unfolding typed freed settle opening retype has_pages give_run leave_run
types_left = refl

-- a run out of the middle of two blocks: two heads come to one list, the higher in front
across : Outcome
across = step (alloc_run_at (zone_opening 3 0 16 0 1) 0 0 16).zone 0 (Request.FreeRun 6 4)

across_seen : seen across ≡ record { reply = Reply.Freed; lists = [] ∷ (8 ∷ 6 ∷ []) ∷ [] ∷ [] ∷ []; out = (0, 2) ∷ (4, 1) ∷ (10, 1) ∷ (12, 2) ∷ [] }
unfolding across has_run is_max settle settled belongs opening has_pages give_run leave_run with_pages without_pages
across_seen = refl
