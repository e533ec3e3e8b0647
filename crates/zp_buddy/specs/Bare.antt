-- What is passed over in a search for free pages: pages with no large free block, and pages that are all free.
use Rattle.std.specs.Prelude.{ℕ, ◌+◌, ◌^◌, ◌≡◌, ◌≤◌, ◌<◌, true, false}
use Rattle.zp_model.specs.Area.{Area, available, is_isolated}
use Rattle.zp_model.specs.Block.{has, is_max}

-- each free block of order k or more, outside isolated pageblocks, that ends past page i begins at page e or behind it
abbrev pub IsBareTo : Area → ℕ → ℕ → ℕ → Type 0
IsBareTo a k i e = (h j : ℕ) → is_max a.largest a.free h j ≡ true → is_isolated a.largest a.kinds h ≡ false → k ≤ j → i < h + 2 ^ j → e ≤ h

-- the pages from h on to before page e are free, outside isolated pageblocks
abbrev pub AreAtHand : Area → ℕ → ℕ → Type 0
AreAtHand a h e = (i : ℕ) → h ≤ i → i < e → has (available a.largest a.kinds a.free) i ≡ true

-- a free block of order k or more, outside isolated pageblocks, begins in the n pages from page i on
abbrev pub HasBlockFrom : Area → ℕ → ℕ → ℕ → Type 0
HasBlockFrom a k i n =
    (h : ℕ) × (j : ℕ) × (is_max a.largest a.free h j ≡ true) × (is_isolated a.largest a.kinds h ≡ false) × (k ≤ j) × (i ≤ h) × (h < i + n)
