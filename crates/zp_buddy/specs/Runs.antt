-- Pages that are taken, or given back, one after another.
use Rattle.std.specs.Prelude.{ℕ, suc, zero, ◌+◌, ◌^◌, ◌≡◌, ◌≤◌, ◌<◌, false, List, [], ◌∷◌, ◌++◌, length, min, bit_xor, slice_index_or, unwrap_or, Option, None, Some}
use Rattle.zp_model.specs.declared.migrate_type.MigrateType.{MigrateType}
use Rattle.zp_model.specs.Area.{Area}
use Rattle.zp_model.specs.Block.{has}
use Rattle.zp_model.specs.BlockSet.{Starts, cover, max_blocks}
use Rattle.zp_model.specs.Choose.{choose, own}
use Rattle.zp_model.specs.Frames.{Frames, with_area}
use Rattle.zp_model.specs.Rows.{list_at, stands_in}
use Rattle.zp_area.specs.Blocks.{Blocks, block_set}
use Rattle.zp_buddy.specs.Choices.{area_in, frames_in}
use Rattle.zp_buddy.specs.Sound.{IsSound}
use Rattle.zp_model.specs.Runs.{without_pages}
use Rattle.zp_model.specs.Take.{give, take_answer, take_after}

-- the n pages from h on are pages of the zone, none of them free or on a further list
pub record AreClear (f : Frames) (h n : ℕ) : Type 0 where
  pub inside : h + n ≤ length f.area.free
  pub free : (i : ℕ) → h ≤ i → i < h + n → has f.area.free i ≡ false
  pub aside : (r i : ℕ) → h ≤ i → i < h + n → stands_in i (list_at f.sides r) ≡ false

-- what so many requests for a page of type t are answered, one after another
abbrev pub pages_taken : Area → MigrateType → ℕ → List (Option ℕ)
pages_taken a t zero = []
pages_taken a t (suc n) = take_answer a 0 t ∷ pages_taken (take_after a 0 t) t n

-- and what they leave
abbrev pub pages_left : Area → MigrateType → ℕ → Area
pages_left a t zero = a
pages_left a t (suc n) = pages_left (take_after a 0 t) t n

-- so many pages from h on
abbrev pub run_pages : ℕ → ℕ → List (Option ℕ)
run_pages h zero = []
run_pages h (suc n) = Some h ∷ run_pages (h + 1) n

-- how many pages the first block of the type has, where there is one; of another type's block one page is taken
abbrev pub pages_of_first : Area → Option ℕ → ℕ
pages_of_first a None = 1
pages_of_first a (Some h) = 2 ^ unwrap_or (slice_index_or (max_blocks a.largest a.free) h None) 0

-- how many pages a run for type t has, where so many are wanted
abbrev pub run_length : Area → MigrateType → ℕ → ℕ
run_length a t most = min most (pages_of_first a (own a 0 t))

-- the n pages from h on, of so many that were wanted, were taken for type t one by one, which leaves y
pub record IsRunTaking (a : Blocks) (t : MigrateType) (most : ℕ) (y : Blocks) (h n : ℕ) : Type 0 where
  pub count : n ≡ run_length (area_in a.largest a) t most
  pub some : 0 < n
  pub within : n ≤ most
  pub answers : pages_taken (area_in a.largest a) t n ≡ run_pages h n
  -- they are the lowest of a free block
  pub order : ℕ
  pub enough : n ≤ 2 ^ order
  pub starts : Starts (block_set a) h order
  pub largest : y.largest ≡ a.largest
  pub sound : IsSound a.largest y.rows.states y.kinds y.rows.lists
  pub pages : length y.rows.states ≡ length a.rows.states
  pub typed : length y.kinds ≡ length a.kinds
  pub left : cover (block_set y) ≡ without_pages (cover (block_set a)) h n
  pub after : frames_in a.largest y ≡ with_area (frames_in a.largest a) (pages_left (area_in a.largest a) t n)

-- what is answered
abbrev pub IsRunOf : Blocks → MigrateType → ℕ → Blocks → Option (ℕ × ℕ) → Type 0
IsRunOf a t most y None = (choose (area_in a.largest a) 0 t ≡ None) × (y ≡ a)
IsRunOf a t most y (Some r) = IsRunTaking a t most y r.0 r.1

-- the area once these pages were given back, one after another
abbrev pub gives : Area → List ℕ → Area
gives a [] = a
gives a (h ∷ hs) = gives (give a h 0) hs

-- the pages of the block of order j around page p, in this order: p, and one half after the other. The d-th of them is p with the bits of d turned
abbrev pub turned_pages : ℕ → ℕ → List ℕ
turned_pages p zero = p ∷ []
turned_pages p (suc j) = turned_pages p j ++ turned_pages (bit_xor p (2 ^ j)) j
