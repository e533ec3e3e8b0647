-- The text of a map, which is of this profile.
use Rattle.std.specs.Prelude.{ℕ, ◌+◌, ◌-◌, ◌^◌, ◌==◌, ◌&&◌, min, Bool, if◌then◌else◌, Option, Some, None}
use Rattle.std.specs.Prelude.{List, [], ◌∷◌, ◌++◌, length, codes, encode_utf8, flat_map}
use Rattle.std.specs.Fmt.{decimal}
use Rattle.std.specs.Io.KnownBytes.{Appends}
use Rattle.std.specs.Fork.{slice_chunk}
use Rattle.std.specs.Int.{div_ceil}
use Rattle.std.specs.List.{count_by, range_with_len}
use Rattle.zp_model.specs.declared.constants.TheConstants.{MAX_WORKERS}
use Rattle.zp_model.specs.Info.{right_aligned}
use Rattle.zp_model.specs.Zone.{PlainZone, pages_of}
use Rattle.zp_model.specs.Area.{pageblock_pages}
use Rattle.zp_view.specs.declared.page_state.PageState.{PageState}
use Rattle.zp_view.specs.Ways.{IsLeastUsed, is_cached_by, is_out_to, is_posted_to, is_used, run_at}
use Rattle.zp_drawing.specs.declared.glyphs.CellStyle.{CellStyle}
use Rattle.zp_drawing.specs.Glyphs.{cell_text}
use Rattle.zp_drawing.specs.Lines.{line}

-- the line of what the map is of: the zone's name and pages, the first of them, and how many pages a pageblock and a cell have
abbrev pub title_text : List ℕ → PlainZone → ℕ → ℕ → List ℕ
title_text name z first cell =
    line (codes "zone " ++ (name ++ (codes ": " ++ (decimal (pages_of z) ++ (codes " pages from " ++ (decimal first ++ (codes ", "
    ++ (decimal (pageblock_pages z.area.largest) ++ (codes " a pageblock, " ++ (decimal cell ++ codes " a cell"))))))))))

-- the text of one of the cells of so many pages each into which a row is cut
abbrev pub nth_cell_text : CellStyle → ℕ → List PageState → ℕ → List ℕ
nth_cell_text style pages row cell = cell_text style (slice_chunk row pages cell)

-- the text of the first cells of a row, and that of all; the last may have fewer pages
abbrev pub first_cells_text : CellStyle → ℕ → List PageState → ℕ → List ℕ
first_cells_text style pages row cells = flat_map (nth_cell_text style pages row) (range_with_len 0 cells)

abbrev pub cells_text : CellStyle → ℕ → List PageState → List ℕ
cells_text style pages row = first_cells_text style pages row (div_ceil (length row) pages)

-- the beginning of a pageblock's line: its number in five places, and the letter of its type
abbrev pub margin_text : ℕ → ℕ → List ℕ
margin_text number letter = right_aligned 5 (decimal number) ++ (0x20 ∷ encode_utf8 letter ++ codes "  ")

-- the line of a pageblock with these pages
abbrev pub pageblock_text : CellStyle → ℕ → List PageState → ℕ → ℕ → List ℕ
pageblock_text style pages row number letter = line (margin_text number letter ++ cells_text style pages row)

-- the line of the largest free block's order
abbrev pub largest_text : Option ℕ → List ℕ
largest_text None = line (codes "largest free block: none")
largest_text (Some order) = line (codes "largest free block: order " ++ (decimal order ++ (codes ", " ++ (decimal (2 ^ order) ++ codes " pages"))))

-- how many pages of a row are lent to a worker, lie in its lists, and are posted to it
abbrev pub out_pages : List PageState → ℕ → ℕ
out_pages row w = count_by (is_out_to w) row

abbrev pub cached_pages : List PageState → ℕ → ℕ
cached_pages row w = count_by (is_cached_by w) row

abbrev pub posted_pages : List PageState → ℕ → ℕ
posted_pages row w = count_by (is_posted_to w) row

abbrev pub has_nothing : List PageState → ℕ → Bool
has_nothing row w = (out_pages row w == 0) && (cached_pages row w == 0) && (posted_pages row w == 0)

-- the line of what a worker has, which begins so; none where it has nothing
abbrev pub holding_text : List ℕ → List PageState → ℕ → List ℕ
holding_text begin row w =
    if has_nothing row w then []
    else line (begin ++ (codes "worker " ++ (decimal w ++ (codes ": out " ++ (decimal (out_pages row w) ++ (codes ", cached "
    ++ (decimal (cached_pages row w) ++ (codes ", posted " ++ decimal (posted_pages row w)))))))))

-- the lines of so many workers, up to the last that there can be
abbrev pub holdings_text : List ℕ → List PageState → ℕ → List ℕ
holdings_text begin row workers = flat_map (holding_text begin row) (range_with_len 0 (min workers MAX_WORKERS))

-- the last page of a run of this order from this page on
abbrev pub last_page : ℕ → ℕ → ℕ
last_page from k = min (from + 2 ^ k) (2 ^ 64 - 1) - 1

-- the line of a run of this order from this page on: how many of its pages are in use
abbrev pub run_line : List PageState → ℕ → ℕ → List ℕ
run_line run from k =
    line (codes "in the way of order " ++ (decimal k ++ (codes ": " ++ (decimal (count_by is_used run) ++ (codes " of " ++ (decimal (2 ^ k)
    ++ (codes " pages in use, " ++ (decimal from ++ (codes " to " ++ decimal (last_page from k))))))))))

-- and behind it those of the workers that have them
abbrev pub run_text : List PageState → ℕ → ℕ → ℕ → List ℕ
run_text run from k workers = run_line run from k ++ holdings_text (codes "  ") run workers

abbrev pub no_run_text : ℕ → List ℕ
no_run_text k = line (codes "in the way of order " ++ (decimal k ++ codes ": the zone is too small"))

-- a writer has got the lines of the run of this order with the fewest pages in use
pub record IsWayTold (old new : Option (List ℕ)) (row : List PageState) (first k workers : ℕ) : Type 0 where
  pub place : ℕ
  pub least : IsLeastUsed row k place
  pub told : Appends old new (run_text (run_at row k place) (min (first + place) (2 ^ 64 - 1)) k workers)
