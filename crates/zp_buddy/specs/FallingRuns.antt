-- Pages in a row that come back one after another, the highest first.
use Rattle.std.specs.Prelude.{ℕ, suc, zero, ◌+◌, ◌-◌, ◌≡◌, ◌≤◌, ◌<◌, List, [], ◌∷◌, length}
use Rattle.zp_model.specs.declared.state.State.TheVariants.{Tail}
use Rattle.zp_model.specs.Area.{Area}
use Rattle.zp_model.specs.Block.{size}
use Rattle.zp_model.specs.BlockSet.{cover}
use Rattle.zp_model.specs.Frames.{Frames, with_area}
use Rattle.zp_model.specs.Rows.{state_at}
use Rattle.zp_area.specs.Blocks.{Blocks, block_set}
use Rattle.zp_buddy.specs.Choices.{area_in, frames_in}
use Rattle.zp_buddy.specs.Runs.{AreClear, gives}
use Rattle.zp_buddy.specs.Sound.{IsSound}

-- the n pages from h on, the highest first
abbrev pub falling_run : ℕ → ℕ → List ℕ
falling_run h zero = []
falling_run h (suc n) = (h + n) ∷ falling_run h n

-- nothing is noted of the pages from h up to e
abbrev pub AreTails : Frames → ℕ → ℕ → Type 0
AreTails f h e = (i : ℕ) → h ≤ i → i < e → state_at f.states i ≡ Tail

-- the pages from h up to d, of which none is free, would leave of b what those from h up to e would of a
pub record IsGivingAs (m : ℕ) (a b : Blocks) (h e d : ℕ) : Type 0 where
  pub largest : b.largest ≡ m
  pub sound : IsSound m b.rows.states b.kinds b.rows.lists
  pub pages : length b.rows.states ≡ length a.rows.states
  pub kinds : b.kinds ≡ a.kinds
  pub ahead : h ≤ d
  pub clear : AreClear (frames_in m b) h (d - h)
  pub size : size (cover (block_set b)) + d ≡ size (cover (block_set a)) + e
  pub leaves : gives (area_in m b) (falling_run h (d - h)) ≡ gives (area_in m a) (falling_run h (e - h))
  -- no further list changed, and of the notes only those of free blocks
  pub notes : (x : Area) → x.largest ≡ m → with_area (frames_in m b) x ≡ with_area (frames_in m a) x
