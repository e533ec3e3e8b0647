-- Runs: the n pages from page h on, at any place and across pageblocks. They leave the free pages at once, or become free at once, and the lists settle once.
-- A run that is allocated is out as aligned blocks (this profile; the blocks are Knowlton's, 1965, the lists Gorman's, chapter 6).
use Rattle.std.specs.Prelude.{ℕ, suc, zero, ◌+◌, ◌-◌, ◌%◌, ◌^◌, ◌≡◌, ◌==◌, ◌&&◌, ◌||◌, not, Bool, true, false, List, [], ◌∷◌, length, map, cond, leb, ltb, Option, None, Some, unwrap_or}
use Rattle.std.specs.List.{range_with_len, find, list_all}
use Rattle.std.specs.Option.{is_some, option_map}
use Rattle.zp_model.specs.declared.constants.TheConstants.{LARGEST_ALIGNMENT}
use Rattle.zp_model.specs.declared.migrate_type.MigrateType.{MigrateType}
use Rattle.zp_model.specs.declared.mark.Mark.{Mark}
use Rattle.zp_model.specs.declared.mark.Mark.TheVariants.{Low, Min, Any}
use Rattle.zp_model.specs.Block.{has, head}
use Rattle.zp_model.specs.BlockSet.{first_of, orders_from}
use Rattle.zp_model.specs.PageblockType.{noted_type}
use Rattle.zp_model.specs.Area.{Area, available, falling, kind_at, settle}
use Rattle.zp_model.specs.Zone.{PlainZone, Holding, hand_out, holding_at, holds, pages_of}
use Rattle.zp_model.specs.Mark.{low_mark}

-- whether page i is one of the n pages from h on
abbrev pub is_within : ℕ → ℕ → ℕ → Bool
is_within h n i = leb h i && ltb i (h + n)

-- whether each of the n pages from h on lies in the set
unfoldable pub has_pages : List Bool → ℕ → ℕ → Bool
has_pages u h n = list_all (has u) (range_with_len h n)

-- the set without n pages from h on, and with them
unfoldable pub without_pages : List Bool → ℕ → ℕ → List Bool
without_pages u h n = map (λ i. has u i && not (is_within h n i)) (range_with_len 0 (length u))

unfoldable pub with_pages : List Bool → ℕ → ℕ → List Bool
with_pages u h n = map (λ i. has u i || is_within h n i) (range_with_len 0 (length u))

-- whether the run is a zone's: it has a page, and lies among the zone's pages
abbrev pub is_run : ℕ → ℕ → ℕ → Bool
is_run pages h n = leb 1 n && leb (h + n) pages

-- every page of the run is free
abbrev pub IsFreeRun : Area → ℕ → ℕ → Type 0
IsFreeRun a h n = has_pages a.free h n ≡ true

-- the pages of the run leave the free ones
unfoldable pub leave_run : Area → ℕ → ℕ → Area
leave_run a h n = settle (record a { free = without_pages a.free h n })

-- the pages of the run become free
unfoldable pub give_run : Area → ℕ → ℕ → Area
give_run a h n = settle (record a { free = with_pages a.free h n })

-- whether a block of order k may begin a run of n pages at h: it is aligned there, and has no page past the run
abbrev pub fits : ℕ → ℕ → ℕ → Bool
fits h n k = (h % 2 ^ k == 0) && leb (2 ^ k) n

-- the greatest order, m at most, of such a block; a single page always fits
abbrev pub fitting_order : ℕ → ℕ → ℕ → ℕ
fitting_order m h n = unwrap_or (find (fits h n) (falling (m + 1))) 0

-- the first blocks of the cut, so many at most
abbrev pub cut_up_to : ℕ → ℕ → ℕ → ℕ → List (ℕ × ℕ)
cut_up_to m zero h n = []
cut_up_to m (suc most) h zero = []
cut_up_to m (suc most) h (suc n) =
    let k = fitting_order m h (suc n) in (h, k) ∷ cut_up_to m most (h + 2 ^ k) (suc n - 2 ^ k)

-- the cut of a run: the blocks that tile it from its first page on, a head and an order each. Each is as large as its place, the rest of the run and the largest
-- order m allow. A block has a page at least, so n blocks are enough
abbrev pub cut : ℕ → ℕ → ℕ → List (ℕ × ℕ)
cut m h n = cut_up_to m n h n

-- whether the n pages from h on are free, outside isolated pageblocks, and begin at a multiple of 2 to the a, in absolute pages
abbrev pub is_run_for : PlainZone → ℕ → ℕ → ℕ → Bool
is_run_for z n a h = ((z.base + h) % 2 ^ a == 0) && has_pages (available z.area.largest z.area.kinds z.area.free) h n

-- the lowest such run of the zone
unfoldable pub lowest_run : PlainZone → ℕ → ℕ → Option ℕ
lowest_run z n a = find (is_run_for z n a) (range_with_len 0 (pages_of z + 1 - n))

-- whether a request for n pages may go on at a mark, with so many pages at hand over so small a least mark
abbrev pub is_above_by : ℕ → ℕ → ℕ → Mark → Bool
is_above_by min free n Low = ltb (low_mark min + n - 1) free
is_above_by min free n Min = ltb (min + n - 1) free
is_above_by min free n Any = true

-- blocks that are out in w's name, each with its type by its head
abbrev pub hand_out_blocks : PlainZone → ℕ → (ℕ → MigrateType) → List (ℕ × ℕ) → PlainZone
hand_out_blocks z w kind [] = z
hand_out_blocks z w kind (b ∷ bs) = hand_out_blocks (hand_out z w b.0 b.1 (kind b.0)) w kind bs

-- a run is out in w's name, as the blocks of its cut
abbrev pub hand_out_run : PlainZone → ℕ → (ℕ → MigrateType) → ℕ → ℕ → PlainZone
hand_out_run z w kind h n = hand_out_blocks z w kind (cut z.area.largest h n)

-- the run has left the free pages and is out in w's name, each block with its pageblock's type
abbrev pub run_taken : PlainZone → ℕ → ℕ → ℕ → PlainZone
run_taken z w h n =
    hand_out_run (record z { area = leave_run z.area h n }) w (λ g. noted_type (kind_at z.area.largest z.area.kinds g)) h n

-- the block of order k at h, where it is out in w's name: its head and what is noted of it
abbrev pub block_of : PlainZone → ℕ → ℕ → ℕ → Option (ℕ × Holding)
block_of z w h k = cond (holds z w h k) (option_map (λ (x : Holding). (h, x)) (holding_at z.out h)) None

-- the block out in w's name in which page i lies
abbrev pub block_around : PlainZone → ℕ → ℕ → Option (ℕ × Holding)
block_around z w i = first_of (λ k. block_of z w (head i k) k) (orders_from z.area.largest 0)

-- whether each page of the run lies in a block out in w's name
unfoldable pub is_lent_run : PlainZone → ℕ → ℕ → ℕ → Bool
is_lent_run z w h n = list_all (λ i. is_some (block_around z w i)) (range_with_len h n)

-- whether the block out at g, if there is one, has a page of the run
abbrev pub meets : ℕ → ℕ → ℕ → Option Holding → Bool
meets h n g None = false
meets h n g (Some x) = ltb g (h + n) && ltb h (g + 2 ^ x.order)

-- no block that has a page of the run is out any more
abbrev pub without_blocks : PlainZone → ℕ → ℕ → PlainZone
without_blocks z h n = record z { out = map (λ g. cond (meets h n g (holding_at z.out g)) None (holding_at z.out g)) (range_with_len 0 (length z.out)) }

-- what a block out had before page h, and what it had from page e on, stays out in w's name with its type
abbrev pub kept_before : PlainZone → ℕ → ℕ → Option (ℕ × Holding) → PlainZone
kept_before z w h None = z
kept_before z w h (Some b) = hand_out_run z w (λ g. b.1.kind) b.0 (h - b.0)

abbrev pub kept_from : PlainZone → ℕ → ℕ → Option (ℕ × Holding) → PlainZone
kept_from z w e None = z
kept_from z w e (Some b) = hand_out_run z w (λ g. b.1.kind) e (b.0 + 2 ^ b.1.order - e)

-- the run, which is lent to w, becomes free; what the blocks around its first and its last page have beyond it stays out
abbrev pub run_freed : PlainZone → ℕ → ℕ → ℕ → PlainZone
run_freed z w h n =
    kept_from (kept_before (without_blocks (record z { area = give_run z.area h n }) h n) w h (block_around z w h)) w (h + n) (block_around z w (h + n - 1))

-- whether a worker of the zone may ask for a run of n pages so aligned, and whether w may free one
abbrev pub may_alloc_run : ℕ → ℕ → Bool
may_alloc_run n a = leb 1 n && leb a LARGEST_ALIGNMENT

abbrev pub may_free_run : PlainZone → ℕ → ℕ → ℕ → Bool
may_free_run z w p n = leb z.base p && leb 1 n && is_lent_run z w (p - z.base) n
