-- What holds of runs: the cut of a run tiles it, and a run may be taken, and given back, in any parts, the lowest first; so block by block of its cut too.
use Rattle.std.specs.Prelude.{ℕ, suc, zero, ◌==◌, cond, ◌+◌, ◌-◌, ◌*◌, ◌/◌, ◌%◌, ◌^◌, ◌≡◌, ◌≤◌, ◌<◌, ◌⊎◌, ◌↔◌, Bool, true, false, List, [], ◌∷◌, length, replicate, All}
use Rattle.std.specs.List.{sum}
use Rattle.zp_model.specs.Block.{has, head, is_max, IsBlock}
use Rattle.zp_model.specs.Area.{Area}
use Rattle.zp_model.specs.Take.{leave, give}
use Rattle.zp_model.specs.Lawful.{IsListedArea}
use Rattle.zp_model.specs.Runs.{cut, leave_run, give_run, with_pages}

-- k is the greatest order, m at most, of an aligned block that begins at h and has n pages at most
pub record IsFitting (m h n k : ℕ) : Type 0 where
  pub order : k ≤ m
  pub aligned : h % 2 ^ k ≡ 0
  pub inside : 2 ^ k ≤ n
  pub greatest : (j : ℕ) → j ≤ m → h % 2 ^ j ≡ 0 → 2 ^ j ≤ n → j ≤ k

-- the blocks, a head and an order each, are those of the run (h, n), one behind the other: the first begins it, is as large as its place, the run and m allow,
-- and the others tile the rest
abbrev pub Tile : ℕ → ℕ → ℕ → List (ℕ × ℕ) → Type 0
Tile m h n [] = n ≡ 0
Tile m h n (b ∷ bs) = (b.0 ≡ h) × IsFitting m h n b.1 × Tile m (h + 2 ^ b.1) (n - 2 ^ b.1) bs

-- the cut of a run tiles it
abbrev pub CutTiles : Type 0
CutTiles = (m h n : ℕ) → Tile m h n (cut m h n)

-- and its blocks are blocks of the zone, where the run lies in the zone
abbrev pub CutInZone : Type 0
CutInZone = (m pages h n : ℕ) → h + n ≤ pages → All (λ (b : ℕ × ℕ). IsBlock m pages b.0 b.1) (cut m h n)

-- the block (g, k) is one of them
abbrev pub IsAmong : List (ℕ × ℕ) → ℕ → ℕ → Type 0
IsAmong [] g k = ⊥
IsAmong (b ∷ bs) g k = ((b.0 ≡ g) × (b.1 ≡ k)) ⊎ IsAmong bs g k

-- the pages of a run of a zone that has so many pages
abbrev pub pages_of_run : ℕ → ℕ → ℕ → List Bool
pages_of_run pages h n = with_pages (replicate pages false) h n

-- the blocks of a cut are the maximal blocks of the run's pages
abbrev pub CutIsMaximal : Type 0
CutIsMaximal = (m pages h n : ℕ) → h + n ≤ pages → (g k : ℕ) → IsAmong (cut m h n) g k ↔ (is_max m (pages_of_run pages h n) g k ≡ true)

-- a cut has few blocks: below the largest order, their orders rise and then fall
abbrev pub CutLength : Type 0
CutLength = (m h n : ℕ) → length (cut m h n) ≤ 2 * m + n / 2 ^ m

-- no page of the run is free
abbrev pub IsTakenRun : Area → ℕ → ℕ → Type 0
IsTakenRun a h n = (i : ℕ) → h ≤ i → i < h + n → has a.free i ≡ false

-- runs of so many pages each, one behind the other from page h on: what is left once they have left the free pages in turn, and once they have come back in turn
abbrev pub leave_parts : Area → ℕ → List ℕ → Area
leave_parts a h [] = a
leave_parts a h (n ∷ ns) = leave_parts (leave_run a h n) (h + n) ns

abbrev pub give_parts : Area → ℕ → List ℕ → Area
give_parts a h [] = a
give_parts a h (n ∷ ns) = give_parts (give_run a h n) (h + n) ns

-- the same of blocks, a head and an order each
abbrev pub leave_blocks : Area → List (ℕ × ℕ) → Area
leave_blocks a [] = a
leave_blocks a (b ∷ bs) = leave_blocks (leave a b.0 b.1) bs

abbrev pub give_blocks : Area → List (ℕ × ℕ) → Area
give_blocks a [] = a
give_blocks a (b ∷ bs) = give_blocks (give a b.0 b.1) bs

-- a run that is taken in parts, the lowest first, leaves what taking it at once leaves, on each list too
abbrev pub LeftInParts : Type 0
LeftInParts = (a : Area) (h : ℕ) (ns : List ℕ) → IsListedArea a → leave_parts a h ns ≡ leave_run a h (sum ns)

-- and one that is given back in parts, the lowest first, what giving it back at once leaves
abbrev pub GivenInParts : Type 0
GivenInParts = (a : Area) (h : ℕ) (ns : List ℕ) → IsListedArea a → IsTakenRun a h (sum ns) → give_parts a h ns ≡ give_run a h (sum ns)

-- so is one that is taken, or given back, block by block of its cut, in rising order
abbrev pub LeftByCut : Type 0
LeftByCut = (a : Area) (h n : ℕ) → IsListedArea a → leave_blocks a (cut a.largest h n) ≡ leave_run a h n

abbrev pub GivenByCut : Type 0
GivenByCut = (a : Area) (h n : ℕ) → IsListedArea a → IsTakenRun a h n → give_blocks a (cut a.largest h n) ≡ give_run a h n

-- the half of the aligned run of order j + 1 around page h in which page h does not lie: the high one where h lies in the low one, else the low one
abbrev pub half_beside : ℕ → ℕ → ℕ
half_beside h j = cond (head h j == head h (j + 1)) (head h j + 2 ^ j) (head h (j + 1))

-- d such halves, of orders k + d - 1 down to k, become free in turn
abbrev pub give_halves : Area → ℕ → ℕ → ℕ → Area
give_halves a h k zero = a
give_halves a h k (suc d) = give_halves (give a (half_beside h (k + d)) (k + d)) h k d

-- a block that lies in a free one, of order o, leaves the free pages by halving: the free block leaves whole, and each half beside the block comes back, down to
-- the block's order. That leaves what the block's leaving does, on each list too
abbrev pub LeftByHalving : Type 0
LeftByHalving =
    (a : Area) (h k o : ℕ) → IsListedArea a → is_max a.largest a.free (head h o) o ≡ true → h % 2 ^ k ≡ 0 → k ≤ o →
    give_halves (leave a (head h o) o) h k (o - k) ≡ leave a h k
