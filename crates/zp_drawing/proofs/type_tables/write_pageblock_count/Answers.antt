use Rattle.std.proofs.Common.{◌++◌, ◌∷◌, [], ap, ◌∙◌, List, ℕ}
use Rattle.std.specs.Fmt.{decimal, styled_decimal}
use Rattle.zp_drawing.proofs.Padded.{right_aligned-padded}
use Rattle.zp_drawing.proofs.TableTexts.{told_ok}
use Rattle.zp_drawing.proofs.type_tables.write_pageblock_count.Goals as goal

pub returns : goal.returns
returns g c =
    told_ok _ _ _ _ _
    (ap (λ s. styled_decimal s c.args.count ++ 32 ∷ []) c.laid_out.ensures
    ∙ ap (λ (t : List ℕ). t ++ 32 ∷ []) (right_aligned-padded 12 (decimal c.args.count)))
    c.write.ensures.bytes
