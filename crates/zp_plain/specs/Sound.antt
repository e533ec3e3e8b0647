-- When a free area is sound, and when its lists may be settled.
use Rattle.std.specs.Prelude.{ℕ, ◌≡◌, ◌≤◌, ◌<◌, ◌==◌, Bool, true, List, length}
use Rattle.std.specs.List.{IsDistinct}
use Rattle.zp_plain.specs.declared.room.TheConstants.{PLAIN_PAGES}
use Rattle.zp_model.specs.declared.pageblock_type.PageblockType.{PageblockType}
use Rattle.zp_model.specs.Rows.{list_at, stands_in}
use Rattle.zp_model.specs.Area.{Area, lists_count, pageblocks_of}
use Rattle.zp_model.specs.Lawful.{IsListedArea}

-- lists that may be settled for this largest order, these free pages and types: each has each page once, and pages of the zone alone
pub record IsTable (m : ℕ) (free : List Bool) (kinds : List PageblockType) (lists : List (List ℕ)) : Type 0 where
  pub small : length free ≤ PLAIN_PAGES
  pub typed : length kinds ≡ pageblocks_of m (length free)
  pub table : length lists ≡ lists_count m
  pub distinct : (r : ℕ) → r < lists_count m → IsDistinct (λ x y. x == y) (list_at lists r)
  pub inside : (r p : ℕ) → r < lists_count m → stands_in p (list_at lists r) ≡ true → p < length free

-- the area is that of a zone, and its lists hold what belongs there
pub record IsSoundArea (a : Area) : Type 0 where
  pub small : length a.free ≤ PLAIN_PAGES
  pub typed : length a.kinds ≡ pageblocks_of a.largest (length a.free)
  pub lists : IsListedArea a
