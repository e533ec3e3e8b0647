-- The colours of the kinds of pages in pictures of SVG, and the names of their classes: this profile's.
use Rattle.std.specs.Prelude.{ℕ, ◌%◌, min, List, [], ◌∷◌, codes, slice_index_or}
use Rattle.std.specs.Fmt.{decimal}
use Rattle.zp_drawing.specs.declared.cells.Kind.{Kind}
use Rattle.zp_drawing.specs.declared.cells.Kind.TheVariants.{Free, Out, Cached, Posted}

-- greens for free pages, the lighter the larger the block
abbrev pub free_fills : List (List ℕ)
free_fills =
    codes "#3c8d6b" ∷ codes "#559b7c" ∷ codes "#6caa8d" ∷ codes "#83b89f" ∷ codes "#9ac6b0" ∷ codes "#b0d3c1" ∷ codes "#c4dfd1" ∷ codes "#d5e9df" ∷
    codes "#e3f1ea" ∷ codes "#edf6f1" ∷ codes "#f5faf7" ∷ []

-- those of workers, which come again after the eighth, and a lighter one of each for the worker's lists
abbrev pub worker_fills : List (List ℕ)
worker_fills =
    codes "#c8384a" ∷ codes "#2f6db5" ∷ codes "#e08a1e" ∷ codes "#7a4fa3" ∷ codes "#8c5a3c" ∷ codes "#c2408f" ∷ codes "#5a6b7b" ∷ codes "#3a3a8c" ∷
    []

abbrev pub list_fills : List (List ℕ)
list_fills =
    codes "#eeb0b7" ∷ codes "#abc8ea" ∷ codes "#f6d5a8" ∷ codes "#cdb9e0" ∷ codes "#d6bfae" ∷ codes "#ecb5d8" ∷ codes "#bcc6cf" ∷ codes "#b3b3dd" ∷
    []

-- the colour of a kind
abbrev pub fill_of : Kind → List ℕ
fill_of (Free k) = slice_index_or free_fills (min k 10) []
fill_of (Out w) = slice_index_or worker_fills (w % 8) []
fill_of (Cached w) = slice_index_or list_fills (w % 8) []
fill_of Posted = codes "#1c1c1c"

-- the name of a kind's class: `f` with the order, `o` or `c` with the worker, or `p`
abbrev pub class_of : Kind → List ℕ
class_of (Free k) = 0x66 ∷ decimal k
class_of (Out w) = 0x6f ∷ decimal w
class_of (Cached w) = 0x63 ∷ decimal w
class_of Posted = 0x70 ∷ []
