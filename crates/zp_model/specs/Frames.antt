-- The free area with what is noted of each page, and further lists of pages that are not free.
use Rattle.std.specs.Prelude.{ℕ, ◌≡◌, ◌<◌, ◌≤◌, ◌^◌, ◌+◌, ◌↔◌, Bool, true, false, List, [], length, map, replicate, slice_index_or, slice_set, Option, None, Some}
use Rattle.std.specs.List.{range_with_len}
use Rattle.zp_model.specs.declared.state.State.{State}
use Rattle.zp_model.specs.declared.state.State.TheVariants.{Tail, Free, Out, Posted}
use Rattle.zp_model.specs.Block.{has, is_max, IsBlock}
use Rattle.zp_model.specs.BlockSet.{max_blocks}
use Rattle.zp_model.specs.Rows.{state_at, stands_in, list_at}
use Rattle.zp_model.specs.Area.{Area, opening, pageblocks_of}
use Rattle.zp_model.specs.Take.{give}

pub record Frames : Type 0 where
  pub area : Area
  -- for each page what is noted of it
  pub states : List State
  -- lists of pages that are not free
  pub sides : List (List ℕ)

-- what is noted of a page that heads a free block, or none: a head that was free before and is none now is a tail, and what
-- is noted of any other page stays
abbrev pub restate : Option ℕ → State → State
restate (Some k) s = Free k
restate None (Free j) = Tail
restate None Tail = Tail
restate None (Out k t w) = Out k t w
restate None (Posted k t w) = Posted k t w

-- what is noted of each page, where these are the free pages now
unfoldable pub restated : ℕ → List Bool → List State → List State
restated m free states =
    map (λ h. restate (slice_index_or (max_blocks m free) h None) (state_at states h)) (range_with_len 0 (length states))

-- the frames with another free area
abbrev pub with_area : Frames → Area → Frames
with_area f a = record f { area = a; states = restated a.largest a.free f.states }

-- all pages free, and nothing on the further lists
abbrev pub frames_opening : ℕ → ℕ → ℕ → Frames
frames_opening m pages side =
    record {
      area = opening m pages;
      states = restated m (replicate pages true) (replicate pages Tail);
      sides = replicate side [];
    }

-- (h, k) is a block of the zone of which no page is free or on a further list
pub record IsClear (f : Frames) (h k : ℕ) : Type 0 where
  pub block : IsBlock f.area.largest (length f.area.free) h k
  pub free : (i : ℕ) → h ≤ i → i < h + 2 ^ k → has f.area.free i ≡ false
  pub aside : (r i : ℕ) → h ≤ i → i < h + 2 ^ k → stands_in i (list_at f.sides r) ≡ false

-- what may be noted of a page that is not free
abbrev pub IsNote : State → Type 0
IsNote Tail = Unit {0}
IsNote (Free k) = ⊥
IsNote (Out k t w) = Unit {0}
IsNote (Posted k t w) = Unit {0}

-- what is noted as free are the heads of the maximal blocks of the free pages, and no page of a further list is free
pub record IsFramed (f : Frames) : Type 0 where
  pub pages : length f.area.free ≡ length f.states
  pub typed : length f.area.kinds ≡ pageblocks_of f.area.largest (length f.states)
  pub noted : (g k : ℕ) → (state_at f.states g ≡ Free k) ↔ (is_max f.area.largest f.area.free g k ≡ true)
  pub beside : (r p : ℕ) → stands_in p (list_at f.sides r) ≡ true → has f.area.free p ≡ false

-- a block given back: nothing is noted of its head any more, and its pages become free
abbrev pub given : Frames → ℕ → ℕ → Frames
given f h k = with_area (record f { states = slice_set f.states h Tail }) (give f.area h k)
