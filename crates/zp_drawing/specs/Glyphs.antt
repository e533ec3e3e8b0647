-- How a cell of a map is shown: the letters, the shades and the colours, and whose they are, are of this profile; the colours are from the 256 of
-- xterm.
use Rattle.std.specs.Prelude.{ℕ, ◌+◌, ◌*◌, ◌/◌, ◌%◌, ◌==◌, ◌&&◌, ◌||◌, Bool, min, nat_lt, nat_le, if◌then◌else◌}
use Rattle.std.specs.Prelude.{List, [], ◌∷◌, ◌++◌, length, take, drop, slice_index_or, find, codes, encode_utf8}
use Rattle.std.specs.Fmt.{decimal}
use Rattle.std.specs.List.{count_by, list_all}
use Rattle.std.specs.Option.{option_map_or}
use Rattle.zp_drawing.specs.declared.cells.Kind.{Kind}
use Rattle.zp_drawing.specs.declared.cells.Kind.TheVariants.{Free, Out, Cached, Posted}
use Rattle.zp_drawing.specs.declared.glyphs.CellStyle.{CellStyle}
use Rattle.zp_drawing.specs.Kinds.{kind_number, kind_of}
use Rattle.zp_view.specs.declared.page_state.PageState.{PageState}
use Rattle.zp_view.specs.Ways.{is_used}

-- of 26 letters from the first on that of a worker, and past them this one
abbrev pub lettered : ℕ → ℕ → ℕ → ℕ
lettered first past w = if nat_lt w 26 then first + w else past

-- a free block of the largest order '.', of another its digit; 'A' to 'Z' and '@' for a worker; 'a' to 'z' and '%' for its list; '*' for posted
abbrev pub letter_of : ℕ → Kind → ℕ
letter_of largest (Free k) = if nat_lt k largest then 0x30 + k else 0x2e
letter_of largest (Out w) = lettered 0x41 0x40 w
letter_of largest (Cached w) = lettered 0x61 0x25 w
letter_of largest Posted = 0x2a

-- where `low` pages of `first` are in use in the first half, and `high` of `second` in the second. None: MIDDLE DOT (U+00B7). All: FULL BLOCK
-- (U+2588). The first half whole and no others: LEFT HALF BLOCK (U+258C); the second: RIGHT HALF BLOCK (U+2590). Up to a third: LIGHT SHADE
-- (U+2591); up to two thirds: MEDIUM SHADE (U+2592); more: DARK SHADE (U+2593)
abbrev pub shade_between : ℕ → ℕ → ℕ → ℕ → ℕ
shade_between low first high second =
    if low + high == 0 then 0xb7
    else (if low + high == first + second then 0x2588
    else (if (low == first) && (high == 0) then 0x258c
    else (if (low == 0) && (high == second) then 0x2590
    else (if nat_le (3 * (low + high)) (first + second) then 0x2591
    else (if nat_le (3 * (low + high)) (2 * (first + second)) then 0x2592
    else 0x2593)))))

-- the pages of the first half of a cell, and of the second, which has the odd one
abbrev pub first_half : List PageState → List PageState
first_half row = take (length row / 2) row

abbrev pub second_half : List PageState → List PageState
second_half row = drop (length row / 2) row

abbrev pub used_in : List PageState → ℕ
used_in row = count_by is_used row

-- the half block or shade of a cell with these pages
abbrev pub shade_of : List PageState → ℕ
shade_of row = shade_between (used_in (first_half row)) (length (first_half row)) (used_in (second_half row)) (length (second_half row))

-- the colours, of the terminal's 256, of the workers and of their lists; they come again after the eighth
abbrev pub worker_colours : List ℕ
worker_colours = 203 ∷ 75 ∷ 221 ∷ 141 ∷ 79 ∷ 215 ∷ 205 ∷ 250 ∷ []

abbrev pub list_colours : List ℕ
list_colours = 131 ∷ 25 ∷ 136 ∷ 60 ∷ 29 ∷ 130 ∷ 89 ∷ 243 ∷ []

-- greys for free pages, the lighter the larger the block, and white for posted ones
abbrev pub colour_of : Kind → ℕ
colour_of (Free k) = 238 + min k 10
colour_of (Out w) = slice_index_or worker_colours (w % 8) 0
colour_of (Cached w) = slice_index_or list_colours (w % 8) 0
colour_of Posted = 231

-- the number of the kind of a page, and how many pages of a row have the kind of a number
abbrev pub number_of : PageState → ℕ
number_of s = kind_number (kind_of s)

abbrev pub has_number : ℕ → PageState → Bool
has_number n s = number_of s == n

abbrev pub pages_like : ℕ → List PageState → ℕ
pages_like n row = count_by (has_number n) row

-- how much a page of a row counts: as many as the row has pages of its kind; a free page counts nothing where others are in use
abbrev pub weight_of : List PageState → PageState → ℕ
weight_of row s = if is_used s || (count_by is_used row == 0) then pages_like (number_of s) row else 0

-- no page of the row counts more than this one
abbrev pub is_not_outweighed : List PageState → PageState → Bool
is_not_outweighed row s = list_all (λ t. nat_le (weight_of row t) (weight_of row s)) row

-- the kind by which a cell of these pages is shown: that of the first page that none outweighs; posted where there is no page
abbrev pub shown_kind : List PageState → Kind
shown_kind row = option_map_or kind_of (find (is_not_outweighed row) row) Posted

-- the character of a cell that is shown by this kind
abbrev pub glyph_of : CellStyle → Kind → List PageState → ℕ
glyph_of style kind row = if style.ascii then letter_of style.largest kind else shade_of row

-- text in one of the terminal's 256 colours: xterm's control sequence ESC [ 38 ; 5 ; n m, and ESC [ 0 m, which ends it
abbrev pub coloured : ℕ → List ℕ → List ℕ
coloured colour text = 0x1b ∷ codes "[38;5;" ++ decimal colour ++ codes "m" ++ text ++ 0x1b ∷ codes "[0m"

-- the text of a cell of these pages
abbrev pub cell_text : CellStyle → List PageState → List ℕ
cell_text style row =
    if style.colour then coloured (colour_of (shown_kind row)) (encode_utf8 (glyph_of style (shown_kind row) row))
    else encode_utf8 (glyph_of style (shown_kind row) row)
