-- A tree of ranks (this profile): its last row has one for each group, and each node above it the largest of the eight below. The root is node
-- 1, and below node n are 8 n to 8 n + 7.
use Rattle.std.specs.Prelude.{ℕ, suc, zero, ◌+◌, ◌*◌, ◌/◌, ◌^◌, ◌≡◌, ◌≢◌, ◌≤◌, ◌<◌, List, drop, length, max, slice_index, Option, None, Some}
use Rattle.zp_tree.specs.declared.constants.TheConstants.{FAN}

-- the largest of n ranks from node x on
abbrev pub best_from : List ℕ → ℕ → ℕ → ℕ
best_from ns x zero = 0
best_from ns x (suc n) = max (slice_index ns (x + n)) (best_from ns x n)

-- node x stands in row j
pub record IsInRow (j x : ℕ) : Type 0 where
  pub from : FAN ^ j ≤ x
  pub to : x < FAN ^ j + FAN ^ j

-- a row of n ranks is the shortest of those below the root that have room for g groups
pub record IsLeastRow (g n : ℕ) : Type 0 where
  pub d : ℕ
  pub below : 0 < d
  pub row : n ≡ FAN ^ d
  pub room : g ≤ FAN ^ d
  pub least : (e : ℕ) → 0 < e → g ≤ FAN ^ e → d ≤ e

-- each node of the rows above row d holds the largest of those below it, but node x
pub record IsRankedBut (d : ℕ) (ns : List ℕ) (x : ℕ) : Type 0 where
  pub size : length ns ≡ FAN ^ d + FAN ^ d
  pub best : (j c : ℕ) → j < d → c < FAN ^ j → FAN ^ j + c ≢ x → slice_index ns (FAN ^ j + c) ≡ best_from ns (FAN * (FAN ^ j + c)) FAN

-- there is no node 0
abbrev pub IsRanked : ℕ → List ℕ → Type 0
IsRanked d ns = IsRankedBut d ns 0

-- the rank at node x of the last row fell, and only the node above it may not hold what it should: it holds as much, or more
pub record IsOpen (ns : List ℕ) (x : ℕ) : Type 0 where
  pub d : ℕ
  pub row : IsInRow d x
  pub but : IsRankedBut d ns (x / FAN)
  pub most : 0 < d → best_from ns (FAN * (x / FAN)) FAN ≤ slice_index ns (x / FAN)

-- the rank at node x of the last row rose to v, and only the node above it may not hold what it should: the larger of v and what it holds
pub record IsRaised (ns : List ℕ) (x v : ℕ) : Type 0 where
  pub d : ℕ
  pub row : IsInRow d x
  pub but : IsRankedBut d ns (x / FAN)
  pub next : 0 < d → max (slice_index ns (x / FAN)) v ≡ best_from ns (FAN * (x / FAN)) FAN

-- then the nodes ms hold all what they should, and the last row is as it was
abbrev pub IsMended : List ℕ → List ℕ → ℕ → Type 0
IsMended ns ms x = (d : ℕ) → IsInRow d x → IsRankedBut d ns (x / FAN) → IsRanked d ms × (drop (FAN ^ d) ms ≡ drop (FAN ^ d) ns)

-- the first of eight ranks that is v or more
abbrev pub IsFirstAmong : List ℕ → ℕ → Option ℕ → Type 0
IsFirstAmong rs v None = (p : ℕ) → p < FAN → slice_index rs p < v
IsFirstAmong rs v (Some p) = (p < FAN) × (v ≤ slice_index rs p) × ((q : ℕ) → q < p → slice_index rs q < v)

-- the first node of the eight from node x on that holds v or more, and what it holds
abbrev pub IsFirstOfEight : List ℕ → ℕ → ℕ → Option (ℕ × ℕ) → Type 0
IsFirstOfEight ns x v None = (y : ℕ) → x ≤ y → y < x + FAN → slice_index ns y < v
IsFirstOfEight ns x v (Some b) = (x ≤ b.0) × (b.0 < x + FAN) × (b.1 ≡ slice_index ns b.0) × (v ≤ b.1) × ((y : ℕ) → x ≤ y → y < b.0 → slice_index ns y < v)

-- the first of some ranks that is v or more, and that rank
abbrev pub IsFirstRank : List ℕ → ℕ → Option (ℕ × ℕ) → Type 0
IsFirstRank rs v None = (g : ℕ) → slice_index rs g < v
IsFirstRank rs v (Some b) = (b.0 < length rs) × (b.1 ≡ slice_index rs b.0) × (v ≤ b.1) × ((g : ℕ) → g < b.0 → slice_index rs g < v)

-- the largest of some ranks
pub record IsTopRank (rs : List ℕ) (v : ℕ) : Type 0 where
  pub most : (g : ℕ) → slice_index rs g ≤ v
  pub some : (g : ℕ) × (g < length rs) × (slice_index rs g ≡ v)
