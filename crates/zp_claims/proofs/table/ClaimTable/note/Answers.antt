use Rattle.std.proofs.Common.{◌<◌, sym, ◌∙◌, ap, length, set}
use Rattle.std.proofs.lemmas.Grind.{get_or_default_zero}
use Rattle.zp_claims.proofs.Numbers.{code-within, noted-same}
use Rattle.zp_claims.proofs.table.ClaimTable.note.Goals as goal

pub returns-else-index-code : goal.returns-else-index-code
returns-else-index-code c =
    let inside : c.args.pageblock < length c.self.inside.codes.items = code-within _ _ _ c.self.view_is c.requires in
    sym c.self.view_is
    ∙ noted-same c.self.inside.codes.items c.args.pageblock c.args.claim (sym (c.index.ensures ∙ get_or_default_zero _ _ _ inside) ∙ c.if-index-code.false ∙ c.code_of-code.ensures.same)
    ∙ ap (λ s. set s c.args.pageblock c.args.claim) c.self.view_is
