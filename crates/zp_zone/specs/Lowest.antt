-- The lowest run of free pages, block by block from a zone's first page on: what is known at the end of each block (this profile).
use Rattle.std.specs.Prelude.{ℕ, ◌+◌, ◌%◌, ◌^◌, ◌≡◌, ◌≤◌, ◌<◌, Bool, true, false}
use Rattle.zp_model.specs.Area.{available}
use Rattle.zp_model.specs.Block.{has}
use Rattle.zp_model.specs.Runs.{is_run_for}
use Rattle.zp_model.specs.Zone.{PlainZone, pages_of}

-- whether a run may have page i: it is free, outside isolated pageblocks
abbrev pub serves : PlainZone → ℕ → Bool
serves z i = has (available z.area.largest z.area.kinds z.area.free) i

-- the n pages from h on all serve, or none of them does
pub record IsPassed (z : PlainZone) (h n : ℕ) (serving : Bool) : Type 0 where
  pub some : 0 < n
  pub inside : h + n ≤ pages_of z
  pub alike : (i : ℕ) → h ≤ i → i < h + n → serves z i ≡ serving

-- the c pages from h on all serve, or no run of n pages that begins at s or behind it begins before their end
pub record IsPassedFor (z : PlainZone) (n a s h c : ℕ) (serving : Bool) : Type 0 where
  pub some : 0 < c
  pub inside : h + c ≤ pages_of z
  pub serve : serving ≡ true → (i : ℕ) → h ≤ i → i < h + c → serves z i ≡ true
  pub none : serving ≡ false → (g : ℕ) → s ≤ g → g < h + c → is_run_for z n a g ≡ false

-- place s is the first from h on that is a multiple of 2 to the a pages, in absolute pages
pub record IsFirstMultiple (base h a s : ℕ) : Type 0 where
  pub from : h ≤ s
  pub near : s < h + 2 ^ a
  pub aligned : (base + s) % 2 ^ a ≡ 0
  pub least : (g : ℕ) → h ≤ g → (base + g) % 2 ^ a ≡ 0 → s ≤ g

-- place s is a multiple, one from h on, and no run of n pages begins at h or behind it and before s
pub record IsNextStart (z : PlainZone) (n a h s : ℕ) : Type 0 where
  pub from : h ≤ s
  pub aligned : (z.base + s) % 2 ^ a ≡ 0
  pub none : (g : ℕ) → h ≤ g → g < s → is_run_for z n a g ≡ false
