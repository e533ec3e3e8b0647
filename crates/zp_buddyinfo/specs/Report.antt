-- The text that tells a zone's figures. All of it follows from the rows, the bytes of a page, and the style.
use Rattle.std.specs.Prelude.{ℕ, ◌+◌, ◌-◌, ◌*◌, ◌/◌, ◌%◌, ◌^◌, ◌==◌, min, List, [], ◌∷◌, length, slice_index, codes, if◌then◌else◌, Option, Some, None}
use Rattle.std.specs.List.{concat, flat_map, range_with_len, repeat}
use Rattle.std.specs.Fmt.{decimal}
use Rattle.zp_buddyinfo.specs.declared.bounds.TheConstants.{WHOLE}
use Rattle.zp_buddyinfo.specs.declared.index.FragmentationIndex.{FragmentationIndex}
use Rattle.zp_buddyinfo.specs.declared.index.FragmentationIndex.TheVariants.{Served, NothingFree, Above, Below}
use Rattle.zp_buddyinfo.specs.declared.style.Style.{Style}
use Rattle.zp_buddyinfo.specs.declared.row.BuddyinfoRow.{BuddyinfoRow}
use Rattle.zp_buddyinfo.specs.Figures.{free_pages, largest_order, unusable_index, fragmentation_index}

-- a text right-aligned in so many places; a longer one stands whole
abbrev pub right_aligned : ℕ → List ℕ → List ℕ
right_aligned places text = concat (repeat (places - length text) (codes " ") ∷ text ∷ [])

-- digits with zeros before them, in so many places
abbrev pub zero_padded : ℕ → List ℕ → List ℕ
zero_padded places digits = concat (repeat (places - length digits) (codes "0") ∷ digits ∷ [])

-- thousandths as Linux prints them, "%d.%03d"
abbrev pub thousandths : ℕ → List ℕ
thousandths n = concat (decimal (n / WHOLE) ∷ codes "." ∷ zero_padded 3 (decimal (n % WHOLE)) ∷ [])

-- the same of a fragmentation index; of one below 0, "%03d" has the minus behind the point
abbrev pub fragmentation_text : FragmentationIndex → List ℕ
fragmentation_text Served = codes "-1.000"
fragmentation_text NothingFree = thousandths 0
fragmentation_text (Above n) = thousandths n
fragmentation_text (Below n) = concat (codes "0.-" ∷ zero_padded 2 (decimal n) ∷ [])

-- what of an index is above 0
abbrev pub above : FragmentationIndex → ℕ
above Served = 0
above NothingFree = 0
above (Above n) = n
above (Below n) = 0

-- how many of so many parts an index is, rounded to the nearest
abbrev pub parts_of : ℕ → ℕ → ℕ
parts_of index parts = (min index WHOLE * parts + WHOLE / 2) / WHOLE

-- in UTF-8: FULL BLOCK (U+2588), and MIDDLE DOT (U+00B7)
abbrev pub full_block : List ℕ
full_block = 0xe2 ∷ 0x96 ∷ 0x88 ∷ []

abbrev pub middle_dot : List ℕ
middle_dot = 0xc2 ∷ 0xb7 ∷ []

-- so many eighths of a cell, which are fewer than eight: LEFT SEVEN EIGHTHS BLOCK (U+2589) to LEFT ONE EIGHTH BLOCK (U+258F)
abbrev pub eighths : ℕ → List ℕ
eighths n = if n == 0 then [] else 0xe2 ∷ 0x96 ∷ (0x90 - n) ∷ []

-- a bar of an index, and dots up to its full length: whole cells, or eighths of them
abbrev pub plain_bar : Style → ℕ → List ℕ
plain_bar style index =
    if style.ascii then (
    let long = parts_of index style.cells in
    concat (repeat long (codes "#") ∷ repeat (style.cells - long) (codes ".") ∷ []))
    else (
    let long = parts_of index (8 * style.cells) in
    concat (repeat (long / 8) full_block ∷ eighths (long % 8) ∷ repeat ((8 * style.cells - long) / 8) middle_dot ∷ []))

-- what sets a terminal's colour, and what sets it back (ECMA-48, SGR)
abbrev pub yellow : List ℕ
yellow = 27 ∷ codes "[33m"

abbrev pub red : List ℕ
red = 27 ∷ codes "[31m"

abbrev pub no_colour : List ℕ
no_colour = 27 ∷ codes "[0m"

-- the bar in a colour, where there are colours
abbrev pub bar : Style → List ℕ → ℕ → List ℕ
bar style colour index = if style.colour then concat (colour ∷ plain_bar style index ∷ no_colour ∷ []) else plain_bar style index

-- the line of an order with so many free blocks and these indexes, each of which has a bar
unfoldable pub figures_line : Style → ℕ → ℕ → ℕ → FragmentationIndex → List ℕ
figures_line style k count unusable fragmentation =
    concat (right_aligned 5 (decimal k) ∷ right_aligned 11 (decimal count)
    ∷ right_aligned 10 (thousandths unusable) ∷ codes " " ∷ bar style yellow unusable
    ∷ right_aligned 8 (fragmentation_text fragmentation) ∷ codes " " ∷ bar style red (above fragmentation) ∷ codes "\n" ∷ [])

-- the line of an order
abbrev pub order_line : Style → List ℕ → ℕ → List ℕ
order_line style blocks k = figures_line style k (slice_index blocks k) (unusable_index blocks k) (fragmentation_index blocks k)

-- the lines of all orders of a zone
unfoldable pub order_lines : Style → List ℕ → List ℕ
order_lines style blocks = flat_map (order_line style blocks) (range_with_len 0 (length blocks))

abbrev pub largest_text : ℕ → Option ℕ → List ℕ
largest_text page None = codes "none"
largest_text page (Some k) = concat (codes "order " ∷ decimal k ∷ codes ", " ∷ decimal (page * 2 ^ k) ∷ codes " bytes" ∷ [])

-- the line before those of the orders, of a zone with so many free pages, whose largest free block is of this order
unfoldable pub head_line : ℕ → ℕ → List ℕ → ℕ → Option ℕ → List ℕ
head_line page node zone free largest =
    concat (codes "Node " ∷ decimal node ∷ codes ", zone " ∷ zone
    ∷ codes ": " ∷ decimal free ∷ codes " free pages, " ∷ decimal (page * free) ∷ codes " bytes; largest block: "
    ∷ largest_text page largest ∷ codes "\n" ∷ [])

-- what stands over the columns
unfoldable pub column_heads : Style → List ℕ
column_heads style = concat (codes "order     blocks  unusable " ∷ repeat style.cells (codes " ") ∷ codes "  fragmentation\n" ∷ [])

-- the text of a zone, with pages of so many bytes
unfoldable pub zone_text : ℕ → Style → BuddyinfoRow → List ℕ
zone_text page style row =
    concat (head_line page row.node row.zone.now (free_pages row.blocks) (largest_order row.blocks) ∷ column_heads style ∷ order_lines style row.blocks ∷ [])

abbrev pub report : ℕ → Style → List BuddyinfoRow → List ℕ
report page style rows = flat_map (zone_text page style) rows
