-- When the fields of a buddy allocator are sound. The largest block has order m.
use Rattle.std.specs.Prelude.{ℕ, ◌≡◌, length}
use Rattle.zp_model.specs.Block.{size}
use Rattle.zp_model.specs.BlockSet.{cover}
use Rattle.zp_model.specs.Area.{pageblocks_of}
use Rattle.zp_buddy.specs.Sound.{IsSound}
use Rattle.zp_area.specs.Blocks.{Blocks, block_set}

pub record IsHeld (m : ℕ) (a : Blocks) (free : ℕ) : Type 0 where
  -- the blocks are the maximal ones of their pages
  pub sound : IsSound m a.rows.states a.kinds a.rows.lists
  -- each pageblock has a type
  pub typed : length a.kinds ≡ pageblocks_of m (length a.rows.states)
  -- the free pages are counted
  pub counted : free ≡ size (cover (block_set a))
