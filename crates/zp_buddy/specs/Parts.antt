-- Pages that leave the free blocks in which they lie, and those of these blocks that come back (this profile). The largest block has order m.
use Rattle.std.specs.Prelude.{ℕ, ◌+◌, ◌-◌, ◌^◌, ◌≡◌, ◌≤◌, ◌<◌, ◌⊎◌, false, length}
use Rattle.zp_model.specs.declared.state.State.TheVariants.{Free}
use Rattle.zp_model.specs.Block.{has, head}
use Rattle.zp_model.specs.BlockSet.{cover}
use Rattle.zp_model.specs.Frames.{restate, with_area}
use Rattle.zp_model.specs.Rows.{state_at}
use Rattle.zp_model.specs.Runs.{give_run, leave_run}
use Rattle.zp_area.specs.Blocks.{Blocks, block_set}
use Rattle.zp_area.specs.NotedBlocks.{free_order}
use Rattle.zp_buddy.specs.Choices.{area_in, frames_in}
use Rattle.zp_buddy.specs.Runs.{AreClear}
use Rattle.zp_buddy.specs.Sound.{IsSound}

-- n pages from h on have left the free ones of a, which is y then
pub record IsLeftRun (a y : Blocks) (h n : ℕ) : Type 0 where
  pub largest : y.largest ≡ a.largest
  pub sound : IsSound a.largest y.rows.states y.kinds y.rows.lists
  pub pages : length y.rows.states ≡ length a.rows.states
  pub kinds : y.kinds ≡ a.kinds
  pub after : frames_in a.largest y ≡ with_area (frames_in a.largest a) (leave_run (area_in a.largest a) h n)

-- the same, with what is noted of each page: what it is restated to. Nothing else is noted of a page outside these blocks, from page b up to page e.
pub record IsLeftBetween (a y : Blocks) (h n b e : ℕ) : Type 0 where
  pub largest : y.largest ≡ a.largest
  pub sound : IsSound a.largest y.rows.states y.kinds y.rows.lists
  pub pages : length y.rows.states ≡ length a.rows.states
  pub kinds : y.kinds ≡ a.kinds
  pub area : area_in a.largest y ≡ leave_run (area_in a.largest a) h n
  pub sides : (frames_in a.largest y).sides ≡ (frames_in a.largest a).sides
  pub noted : (i : ℕ) → state_at y.rows.states i ≡ restate (free_order (state_at y.rows.states i)) (state_at a.rows.states i)
  pub outside : (i : ℕ) → (i < b) ⊎ (e ≤ i) → state_at y.rows.states i ≡ state_at a.rows.states i

-- n pages from h on have come back to the free ones of a, which is y then: what was noted stays, but of those of the pages that head free blocks
pub record IsGivenBack (a y : Blocks) (h n : ℕ) : Type 0 where
  pub largest : y.largest ≡ a.largest
  pub sound : IsSound a.largest y.rows.states y.kinds y.rows.lists
  pub pages : length y.rows.states ≡ length a.rows.states
  pub kinds : y.kinds ≡ a.kinds
  pub area : area_in a.largest y ≡ give_run (area_in a.largest a) h n
  pub sides : (frames_in a.largest y).sides ≡ (frames_in a.largest a).sides
  pub noted : (i : ℕ) → (state_at y.rows.states i ≡ state_at a.rows.states i) ⊎ ((h ≤ i) × (i < h + n) × (k : ℕ) × (state_at y.rows.states i ≡ Free k))

-- the pages from h up to e may come back to a: none is free or on a further list. They are those before, or those behind, page p of the aligned run of
-- order o around it, and page p is not free.
pub record MayComeBefore (a : Blocks) (h p : ℕ) : Type 0 where
  pub clear : AreClear (frames_in a.largest a) h (p - h)
  pub order : ℕ
  pub within : order ≤ a.largest
  pub from : h ≡ head p order
  pub taken : has (cover (block_set a)) p ≡ false

pub record MayComeBehind (a : Blocks) (h e : ℕ) : Type 0 where
  pub clear : AreClear (frames_in a.largest a) h (e - h)
  pub last : ℕ
  pub next : last + 1 ≡ h
  pub order : ℕ
  pub within : order ≤ a.largest
  pub to : e ≡ head last order + 2 ^ order
  pub taken : has (cover (block_set a)) last ≡ false
