-- What may be a zone's base, how many pages it may have, its largest order, and how many workers; and what may be the settings of workers' lists.
-- The base and the pages of a narrow zone, one that a trace declares, have lower bounds than those of others.
use Rattle.std.specs.Prelude.{ℕ, ◌%◌, ◌≡◌, ◌≤◌, ◌<◌}
use Rattle.zp_model.specs.declared.constants.TheConstants.{BASE_STEP, LARGEST_ORDER, LONGEST_LIST, MAX_BATCH, MAX_WORKERS, NARROW_BASE_LIMIT, NARROW_PAGES}

abbrev pub IsBaseUpTo : ℕ → ℕ → Type 0
IsBaseUpTo limit base = (base % BASE_STEP ≡ 0) × (base ≤ limit)

abbrev pub IsPagesUpTo : ℕ → ℕ → Type 0
IsPagesUpTo most pages = (0 < pages) × (pages ≤ most)

-- of a narrow zone
abbrev pub IsBase : ℕ → Type 0
IsBase base = IsBaseUpTo NARROW_BASE_LIMIT base

abbrev pub IsPages : ℕ → Type 0
IsPages pages = IsPagesUpTo NARROW_PAGES pages

-- the order of a zone's largest block
abbrev pub IsLargest : ℕ → Type 0
IsLargest m = (1 ≤ m) × (m ≤ LARGEST_ORDER)

abbrev pub IsCrew : ℕ → Type 0
IsCrew workers = (0 < workers) × (workers ≤ MAX_WORKERS)

-- how many pages a refill asks for and a drain gives back, and how many pages a list holds at most: batch 0 means no lists, else
-- a list has room for more than a batch (this profile)
pub record AreLists (batch high_len : ℕ) : Type 0 where
  pub most : batch ≤ MAX_BATCH
  pub longest : high_len ≤ LONGEST_LIST
  pub none : batch ≡ 0 → high_len ≡ 0
  pub room : 1 ≤ batch → batch < high_len
