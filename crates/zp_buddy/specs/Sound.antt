-- What page states, types and lists mean, and when they are sound. The largest block has order m.
use Rattle.std.specs.Prelude.{ℕ, ◌≤◌, ◌<◌, List, length, take, drop}
use Rattle.zp_model.specs.declared.constants.TheConstants.{MAX_PAGES}
use Rattle.zp_model.specs.declared.pageblock_type.PageblockType.{PageblockType}
use Rattle.zp_model.specs.declared.state.State.{State}
use Rattle.zp_model.specs.BlockSet.{Starts, cover}
use Rattle.zp_model.specs.Rows.{list_at, IsOn}
use Rattle.zp_model.specs.Area.{Area, lists_count}
use Rattle.zp_model.specs.Frames.{Frames}
use Rattle.zp_model.proofs.Normal.{IsNormal}
use Rattle.zp_model.proofs.Pages.{In}
use Rattle.zp_area.specs.NotedBlocks.{blocks_of}
use Rattle.zp_model.specs.Lawful.{IsListed}

-- the free area of these states, types and lists, where the largest block has order m; the lists past the free ones are further ones
abbrev pub area_of : ℕ → List State → List PageblockType → List (List ℕ) → Area
area_of m states kinds lists = record { largest = m; free = cover (blocks_of states); kinds = kinds; lists = take (lists_count m) lists }

abbrev pub frames_of : ℕ → List State → List PageblockType → List (List ℕ) → Frames
frames_of m states kinds lists = record { area = area_of m states kinds lists; states = states; sides = drop (lists_count m) lists }

pub record IsSound (m : ℕ) (states : List State) (kinds : List PageblockType) (lists : List (List ℕ)) : Type 0 where
  pub pages : length states ≤ MAX_PAGES
  pub table : lists_count m ≤ length lists
  -- the free blocks are disjoint, and no two of them could be joined
  pub normal : IsNormal m (Starts (blocks_of states)) (In (cover (blocks_of states)))
  -- each free list holds the heads that belong there, each once
  pub listed : (r : ℕ) → r < lists_count m → IsListed m (blocks_of states) kinds r (list_at lists r)
  -- the pages on the further lists are not free
  pub aside : (r p : ℕ) → lists_count m ≤ r → IsOn lists r p → In (cover (blocks_of states)) p → ⊥
