-- How much memory a row takes at most (this profile).
use Rattle.std.specs.Prelude.{ℕ, ◌≡◌, ◌≤◌, ◌⊎◌, ◌+◌, ◌-◌, ◌*◌, ◌/◌, List, All, length}
use Rattle.std.specs.List.{sum_by}
use Rattle.zp_model.specs.Area.{lists_count, pageblocks_of}
use Rattle.zp_model.specs.Bounds.{IsLargest}
use Rattle.zp_model.specs.declared.constants.TheConstants.{MAX_PAGES, MAX_WORKERS, MAX_ZONES}
use Rattle.zonealloc.specs.declared.memory.TheConstants.{CREW_BYTES, GROUP_BYTES, GROUP_PAGES, LIST_BYTES, PAGE_BYTES, PAGEBLOCK_BYTES, ROW_BYTES, WORKER_BYTES, ZONE_BYTES}
use Rattle.zonealloc.specs.declared.zone_spec.ZoneSpec.{ZoneSpec}
use Rattle.zonealloc.specs.Zones.{IsOfFirst}

-- how many groups of pages of the status tree so many pages begin
abbrev pub groups_of : ℕ → ℕ
groups_of pages = (pages + (GROUP_PAGES - 1)) / GROUP_PAGES

-- what a zone takes: itself, its free lists, its pages, their groups, its pageblocks, and for each worker something and a byte a page
abbrev pub zone_bytes : ℕ → ZoneSpec → ℕ
zone_bytes workers z =
    ZONE_BYTES + LIST_BYTES * lists_count z.largest + (PAGE_BYTES * z.pages + GROUP_BYTES * groups_of z.pages + PAGEBLOCK_BYTES * pageblocks_of z.largest z.pages) + workers * (WORKER_BYTES + z.pages)

-- what a row takes: itself, its workers, and its zones
abbrev pub row_bytes : ℕ → List ZoneSpec → ℕ
row_bytes workers zones = ROW_BYTES + CREW_BYTES * workers + sum_by (zone_bytes workers) zones

-- a zone can have so many pages; and such a largest order, too
abbrev pub HasPages : ZoneSpec → Type 0
HasPages z = (1 ≤ z.pages) × (z.pages ≤ MAX_PAGES)

abbrev pub HasSize : ZoneSpec → Type 0
HasSize z = IsLargest z.largest × HasPages z

-- why a zone can have no such size, by its number: 40 for the largest order, or else 3 for the pages
abbrev pub IsNoSize : ZoneSpec → ℕ → Type 0
IsNoSize z code = ((code ≡ 40) × ¬ IsLargest z.largest) ⊎ ((code ≡ 3) × IsLargest z.largest × ¬ HasPages z)

-- a row has so many zones, and so many workers
abbrev pub IsRowLength : ℕ → Type 0
IsRowLength n = (1 ≤ n) × (n ≤ MAX_ZONES)

abbrev pub IsCrewLength : ℕ → Type 0
IsCrewLength n = (1 ≤ n) × (n ≤ MAX_WORKERS)

-- answered 0, exactly where zones and workers are so many and each zone can have its size, what the row takes is told; else nothing is, and the
-- first of these that is not so has its number
pub record IsBytesCall (zones : List ZoneSpec) (workers code before after : ℕ) : Type 0 where
  pub told : code ≡ 0 → after ≡ row_bytes workers zones
  pub kept : 1 ≤ code → after ≡ before
  pub count : ¬ IsRowLength (length zones) → code ≡ 40
  pub crew : IsRowLength (length zones) → ¬ IsCrewLength workers → code ≡ 5
  pub sizes : IsRowLength (length zones) → IsCrewLength workers → ((code ≡ 0) × All HasSize zones) ⊎ IsOfFirst HasSize IsNoSize zones code
