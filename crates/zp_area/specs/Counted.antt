-- When the free pages of each pageblock are counted.
use Rattle.std.specs.Prelude.{ℕ, ◌≡◌, List, length, slice_index}
use Rattle.zp_model.specs.declared.state.State.{State}
use Rattle.zp_model.specs.BlockSet.{cover}
use Rattle.zp_model.specs.Area.{pageblocks_of, size_in}
use Rattle.zp_area.specs.NotedBlocks.{blocks_of}

pub record IsCounted (m : ℕ) (states : List State) (free_in : List ℕ) : Type 0 where
  -- there is a number for each pageblock
  pub blocks : length free_in ≡ pageblocks_of m (length states)
  -- it is that of the free pages there
  pub each : (b : ℕ) → slice_index free_in b ≡ size_in m (cover (blocks_of states)) b
