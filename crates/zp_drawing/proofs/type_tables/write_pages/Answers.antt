use Rattle.std.proofs.Common.{◌++◌, ◌∷◌, [], ap, codes}
use Rattle.std.specs.Fmt.{decimal}
use Rattle.zp_drawing.proofs.TableTexts.{told_ok}
use Rattle.zp_drawing.proofs.type_tables.write_pages.Goals as goal

pub returns : goal.returns
returns g c =
    told_ok _ _ _ _ _ (ap (λ n. codes "Pages per block:  " ++ (decimal n ++ 10 ∷ 10 ∷ [])) c.pages-pages.ensures.pages) c.write.ensures.bytes
