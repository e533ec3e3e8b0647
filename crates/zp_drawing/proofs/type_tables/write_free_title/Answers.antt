use Rattle.std.proofs.Common.{◌++◌, ◌∷◌, [], ap, ◌∙◌, codes, List, ℕ}
use Rattle.std.specs.Fmt.{styled_text}
use Rattle.zp_drawing.proofs.Fields.{free_left}
use Rattle.zp_drawing.proofs.TableTexts.{told_ok}
use Rattle.zp_drawing.proofs.type_tables.write_free_title.Goals as goal

pub returns : goal.returns
returns g c =
    told_ok _ _ _ _ _
    (ap (λ s. styled_text s (codes "Free pages count per migrate type at order") ++ 32 ∷ []) c.laid_out.ensures
    ∙ ap (λ (t : List ℕ). t ++ 32 ∷ []) free_left)
    c.write.ensures.bytes
