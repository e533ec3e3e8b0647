use Rattle.std.proofs.Common.{ap, ◌∙◌}
use Rattle.std.specs.Fmt.{styled_text, padded, format_spec}
use Rattle.zp_drawing.proofs.Fields.{name_right, told_name}
use Rattle.zp_drawing.proofs.TableTexts.{told_ok}
use Rattle.zp_drawing.proofs.type_tables.write_name.Goals as goal

pub returns : goal.returns
returns g c =
    told_ok _ _ _ _ _
    (ap (λ s. styled_text s c.as_str-name.result.now) c.laid_out.ensures
    ∙ ap (λ name. padded (format_spec 32 3 0 8 18446744073709551615) name) c.as_str-name.ensures
    ∙ name_right _ (told_name _ _ c.as_bytes.ensures.same c.as_bytes.ensures.name))
    c.write.ensures.bytes
