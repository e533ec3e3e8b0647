use Rattle.std.proofs.Common.{◌<◌, ◌∙◌, ap, length, set}
use Rattle.std.proofs.lemmas.Grind.{get_or_default_zero}
use Rattle.zp_claims.specs.Codes.{claim_of}
use Rattle.zp_claims.proofs.Numbers.{code-within, counted-here, noted-set, numbered-set}
use Rattle.zp_claims.proofs.table.ClaimTable.note_anew.Goals as goal

pub overflow_sub-self : goal.overflow_sub-self
overflow_sub-self c =
    let inside : c.args.pageblock < length c.self.inside.codes.items = code-within _ _ _ c.self.view_is c.requires.inside in
    rw (c.index.ensures ∙ get_or_default_zero _ _ _ inside) (counted-here c.self.inside.codes.items c.self.inside.numbers c.args.pageblock c.self.invariant inside)

pub invariant_of-self : goal.invariant_of-self
invariant_of-self c =
    let inside : c.args.pageblock < length c.self.inside.codes.items = code-within _ _ _ c.self.view_is c.requires.inside in
    rw (c.index.ensures ∙ get_or_default_zero _ _ _ inside)
    (numbered-set c.self.inside.codes.items c.self.inside.numbers c.args.pageblock c.args.code c.self.invariant c.self.told inside c.requires.code)

pub returns : goal.returns
returns c = noted-set c.self.inside.codes.items c.args.pageblock c.args.code ∙ ap (λ s. set s c.args.pageblock (claim_of c.args.code)) c.self.view_is
