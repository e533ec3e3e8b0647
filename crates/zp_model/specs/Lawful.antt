-- When a plain zone is lawful: each page lies in exactly one place, and each free list holds what belongs there, each once.
use Rattle.std.specs.Prelude.{ℕ, ◌+◌, ◌/◌, ◌%◌, ◌≡◌, ◌<◌, ◌==◌, Bool, true, false, List, length, cond, Option, None, Some, All}
use Rattle.zp_model.specs.declared.pageblock_type.PageblockType.{PageblockType}
use Rattle.zp_model.specs.PageblockType.{pageblock_type_number, pageblock_types}
use Rattle.std.specs.List.{range_with_len, count_by, sum_by, IsDistinct}
use Rattle.zp_model.specs.Block.{has, in_run, IsBlock}
use Rattle.zp_model.specs.Rows.{list_at, stands_in}
use Rattle.zp_model.specs.BlockSet.{Starts}
use Rattle.zp_model.specs.Area.{Area, kind_at, lists_count, belongs, pageblocks_of}
use Rattle.zp_model.specs.Zone.{PlainZone, Holding, PostedBlock, holding_at, posted_to, pages_of, workers_of}

-- whether the block out at h, if there is one, has page i
abbrev pub holding_has : ℕ → ℕ → Option Holding → Bool
holding_has h i None = false
holding_has h i (Some x) = in_run h x.order i

-- in how many blocks out, and in how many posted blocks, page i lies
unfoldable pub times_out : List (Option Holding) → ℕ → ℕ
times_out out i = count_by (λ h. holding_has h i (holding_at out h)) (range_with_len 0 (length out))

unfoldable pub times_posted : List (List PostedBlock) → ℕ → ℕ
times_posted posted i = sum_by (λ ps. count_by (λ (p : PostedBlock). in_run p.head p.order i) ps) posted

-- in how many places page i lies
unfoldable pub times : PlainZone → ℕ → ℕ
times z i = cond (has z.area.free i) 1 0 + times_out z.out i + times_posted z.posted i

-- the lists of an area hold the heads that belong there, each once, and nothing else
pub record IsListedArea (a : Area) : Type 0 where
  pub table : length a.lists ≡ lists_count a.largest
  pub distinct : (r : ℕ) → r < lists_count a.largest → IsDistinct (λ x y. x == y) (list_at a.lists r)
  pub held : (r h : ℕ) → r < lists_count a.largest → stands_in h (list_at a.lists r) ≡ belongs a.largest a.free a.kinds r h

-- the block of the row's order starts at h, in a pageblock of the row's type
abbrev pub Here : ℕ → List (Option ℕ) → List PageblockType → ℕ → ℕ → Type 0
Here m s kinds r h = Starts s h (r / pageblock_types) × (pageblock_type_number (kind_at m kinds h) ≡ r % pageblock_types)

-- the list holds, each once, what belongs in row r
pub record IsListed (m : ℕ) (s : List (Option ℕ)) (kinds : List PageblockType) (r : ℕ) (xs : List ℕ) : Type 0 where
  pub distinct : IsDistinct (λ x y. x == y) xs
  pub to : (h : ℕ) → stands_in h xs ≡ true → Here m s kinds r h
  pub from : (h : ℕ) → Here m s kinds r h → stands_in h xs ≡ true

pub record IsLawful (z : PlainZone) : Type 0 where
  -- there is a place for a holding at each page, and a type for each pageblock
  pub places : length z.out ≡ pages_of z
  pub kinds : length z.area.kinds ≡ pageblocks_of z.area.largest (pages_of z)
  -- what is out are blocks of the zone, in the name of its workers; what is posted are blocks of the zone
  pub out : (h : ℕ) (x : Holding) → holding_at z.out h ≡ Some x → IsBlock z.area.largest (pages_of z) h x.order × (x.worker < workers_of z)
  pub posted : (w : ℕ) → All (λ (p : PostedBlock). IsBlock z.area.largest (pages_of z) p.head p.order) (posted_to z w)
  -- each page lies in exactly one place
  pub once : (i : ℕ) → i < pages_of z → times z i ≡ 1
  pub lists : IsListedArea z.area
