-- Which blocks are clear, by what a test of it looks at.
use Rattle.std.specs.Prelude.{ℕ, ◌+◌, ◌≡◌, ◌≤◌, ◌<◌, Bool, List, [], false}
use Rattle.zp_model.specs.Block.{has}
use Rattle.zp_model.specs.Rows.{list_at, stands_in}
use Rattle.zp_model.specs.Frames.{Frames}

-- frames of this largest order, these free pages and further lists; whether a block is clear reads nothing else
abbrev pub open_frames : ℕ → List Bool → List (List ℕ) → Frames
open_frames m free sides = record { area = record { largest = m; free = free; kinds = []; lists = [] }; states = []; sides = sides }

-- page i is not free, and on no further list
abbrev pub IsClearPage : List Bool → List (List ℕ) → ℕ → Type 0
IsClearPage free sides i = (has free i ≡ false) × ((r : ℕ) → stands_in i (list_at sides r) ≡ false)

-- that of each of the n pages from h on
abbrev pub IsClearRun : List Bool → List (List ℕ) → ℕ → ℕ → Type 0
IsClearRun free sides h n = (i : ℕ) → h ≤ i → i < h + n → IsClearPage free sides i
