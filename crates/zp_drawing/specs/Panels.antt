-- The chart of a zone's free pages, in pixels: what this profile draws.
use Rattle.std.specs.Prelude.{ℕ, ◌+◌, ◌-◌, ◌*◌, ◌/◌, ◌^◌, min, max, List, map, sum, slice_index_or}
use Rattle.std.specs.List.{range_with_len}
use Rattle.zp_model.specs.declared.constants.TheConstants.{ORDERS}
use Rattle.zp_drawing.specs.declared.panels.TheConstants.{PANEL_HEIGHT}
use Rattle.zp_drawing.specs.declared.panels.Panel.{Panel}

-- a number of 64 bits, or the largest where it is too large
abbrev pub up_to_largest : ℕ → ℕ
up_to_largest n = min n (2 ^ 64 - 1)

-- how far above the field's bottom so many pages are shown: at its top all pages of the zone, and more than these
abbrev pub height_of : Panel → ℕ → ℕ
height_of panel pages = min (pages * PANEL_HEIGHT / max panel.pages 1) PANEL_HEIGHT

-- where that is, from the picture's top
abbrev pub level_of : Panel → ℕ → ℕ
level_of panel pages = up_to_largest (panel.y + PANEL_HEIGHT) - height_of panel pages

-- where a sample of so many is shown, from the picture's left: the first at the field's left edge, and each as far from the next
abbrev pub place_of : Panel → ℕ → ℕ → ℕ
place_of panel sample samples = up_to_largest (panel.x + up_to_largest (sample * panel.width) / max samples 1)

-- how many pages the free blocks of an order have
abbrev pub pages_in : List ℕ → ℕ → ℕ
pages_in by_order k = slice_index_or by_order k 0 * 2 ^ k

-- how many those of this order and of all above have, or the largest number of 32 bits where they have more
abbrev pub pages_from : List ℕ → ℕ → ℕ
pages_from by_order order = min (sum (map (pages_in by_order) (range_with_len order (ORDERS - order)))) (2 ^ 32 - 1)
