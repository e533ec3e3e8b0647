use Rattle.std.proofs.Common.{◌<◌, sym, ◌∙◌, length}
use Rattle.std.proofs.lemmas.Grind.{get_or_default_zero}
use Rattle.zp_claims.proofs.Numbers.{code-within, some-noted}
use Rattle.zp_claims.proofs.table.ClaimTable.has.Goals as goal

pub returns : goal.returns
returns c =
    let inside : c.args.pageblock < length c.self.inside.codes.items = code-within _ _ _ c.self.view_is c.requires in
    rw (c.index.ensures ∙ get_or_default_zero _ _ _ inside, c.code_of-nothing.ensures.same, ← c.self.view_is) (sym (some-noted c.self.inside.codes.items c.args.pageblock))
