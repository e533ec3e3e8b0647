-- When notes, lists and types are of one set of blocks, and when what is kept beside them is of the same set. The largest block
-- has order m.
use Rattle.std.specs.Prelude.{ℕ, ◌≡◌, ◌≤◌, ◌<◌, ◌+◌, ◌^◌, List, length, false}
use Rattle.zp_model.specs.declared.constants.TheConstants.{MAX_PAGES}
use Rattle.zp_model.specs.Block.{has}
use Rattle.zp_model.specs.BlockSet.{cover}
use Rattle.zp_model.specs.Rows.{list_at, IsOn}
use Rattle.zp_model.specs.Area.{lists_count, pageblocks_of}
use Rattle.zp_tree.specs.Blocks.{IsBlockSet}
use Rattle.zp_area.specs.Counted.{IsCounted}
use Rattle.zp_area.specs.Blocks.{Blocks, block_set}
use Rattle.zp_model.specs.Lawful.{IsListed}

-- the notes, the lists and the types are of one set of blocks
pub record IsOneSet (m : ℕ) (a : Blocks) : Type 0 where
  pub pages : length a.rows.states ≤ MAX_PAGES
  -- there is a list for each order and type, and each pageblock has a type
  pub table : lists_count m ≤ length a.rows.lists
  pub typed : length a.kinds ≡ pageblocks_of m (length a.rows.states)
  -- no two blocks have a page in common
  pub blocks : IsBlockSet m (block_set a)
  -- each free list holds the heads of the blocks of its order in pageblocks of its type, each once
  pub listed : (r : ℕ) → r < lists_count m → IsListed m (block_set a) a.kinds r (list_at a.rows.lists r)
  -- no page of a further list is in a block
  pub aside : (r p : ℕ) → lists_count m ≤ r → IsOn a.rows.lists r p → has (cover (block_set a)) p ≡ false

-- the numbers of free pages that are kept are those of the set
pub record IsKept (m : ℕ) (a : Blocks) (free_in : List ℕ) : Type 0 where
  pub one : IsOneSet m a
  -- no list has a number that does not fit
  pub few : length a.rows.lists ≤ lists_count m + 2 ^ 32
  pub each : IsCounted m a.rows.states free_in
