use Rattle.std.proofs.Common.{◌++◌, ◌∷◌, [], ap, ◌∙◌, List, ℕ}
use Rattle.std.specs.Fmt.{styled_text, padded, format_spec}
use Rattle.zp_drawing.proofs.Fields.{type_right}
use Rattle.zp_drawing.proofs.TableTexts.{told_ok}
use Rattle.zp_drawing.proofs.type_tables.write_type.Goals as goal

pub returns : goal.returns
returns g c =
    told_ok _ _ _ _ _
    (ap (λ s. styled_text s c.type_name-name.result.now ++ 32 ∷ []) c.laid_out.ensures
    ∙ ap (λ name. padded (format_spec 32 3 0 12 18446744073709551615) name ++ 32 ∷ []) c.type_name-name.ensures
    ∙ ap (λ (t : List ℕ). t ++ 32 ∷ []) (type_right c.args.kind))
    c.write.ensures.bytes
