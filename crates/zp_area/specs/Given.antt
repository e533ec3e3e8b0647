-- Giving a block back: which pages may come back, and what is left.
use Rattle.std.specs.Prelude.{ℕ, ◌+◌, ◌^◌, ◌≡◌, ◌≤◌, ◌<◌, List, false, drop}
use Rattle.zp_model.specs.declared.state.State.{State}
use Rattle.zp_model.specs.Block.{has}
use Rattle.zp_model.specs.BlockSet.{cover}
use Rattle.zp_model.specs.Rows.{list_at, stands_in}
use Rattle.zp_model.specs.Area.{lists_count}
use Rattle.zp_area.specs.NotedBlocks.{blocks_of}

-- page i is not free, and on no list past the free ones
abbrev pub IsClearPage : ℕ → List State → List (List ℕ) → ℕ → Type 0
IsClearPage m states lists i = (has (cover (blocks_of states)) i ≡ false) × ((r : ℕ) → stands_in i (list_at (drop (lists_count m) lists) r) ≡ false)

-- that of each of n pages from h on
abbrev pub AreClearPages : ℕ → List State → List (List ℕ) → ℕ → ℕ → Type 0
AreClearPages m states lists h n = (i : ℕ) → h ≤ i → i < h + n → IsClearPage m states lists i

-- that of each page of a run of order k
abbrev pub IsClearRun : ℕ → List State → List (List ℕ) → ℕ → ℕ → Type 0
IsClearRun m states lists h k = AreClearPages m states lists h (2 ^ k)
