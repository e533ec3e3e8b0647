-- The pieces of a picture in SVG, as this profile writes them.
use Rattle.std.specs.Prelude.{ℕ, List, ◌∷◌, ◌++◌, codes}
use Rattle.std.specs.Fmt.{decimal}
use Rattle.zp_drawing.specs.declared.cells.Kind.{Kind}
use Rattle.zp_drawing.specs.declared.svg.Rect.{Rect}
use Rattle.zp_drawing.specs.Fills.{class_of, fill_of}
use Rattle.zp_drawing.specs.Lines.{line}

-- an attribute of this name and value, before what follows it in its element
abbrev pub attribute : List ℕ → List ℕ → List ℕ → List ℕ
attribute name value rest = 0x20 ∷ name ++ codes "=" ++ 0x22 ∷ (value ++ 0x22 ∷ rest)

abbrev pub number_attribute : List ℕ → ℕ → List ℕ → List ℕ
number_attribute name n rest = attribute name (decimal n) rest

-- a rectangle of a kind
abbrev pub rect_text : Rect → Kind → List ℕ
rect_text rect kind = line (codes "<rect" ++
    attribute (codes "class") (class_of kind) (
    number_attribute (codes "x") rect.x (
    number_attribute (codes "y") rect.y (
    number_attribute (codes "width") rect.width (
    number_attribute (codes "height") rect.height (
    codes "/>"))))))

-- the line that gives a kind's class its colour, as CSS has it
abbrev pub class_text : Kind → List ℕ
class_text kind = line (codes "." ++ class_of kind ++ codes "{fill:" ++ fill_of kind ++ codes "}")
