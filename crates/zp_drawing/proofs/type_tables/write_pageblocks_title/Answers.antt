use Rattle.std.proofs.Common.{◌∷◌, ap, ◌∙◌, codes, List, ℕ}
use Rattle.std.specs.Fmt.{styled_text}
use Rattle.zp_drawing.proofs.Fields.{pageblocks_left}
use Rattle.zp_drawing.proofs.TableTexts.{told_ok}
use Rattle.zp_drawing.proofs.type_tables.write_pageblocks_title.Goals as goal

pub returns : goal.returns
returns g c =
    told_ok _ _ _ _ _
    (ap (λ s. 10 ∷ styled_text s (codes "Number of blocks type ")) c.laid_out.ensures
    ∙ ap (λ (t : List ℕ). 10 ∷ t) pageblocks_left)
    c.write.ensures.bytes
