use Rattle.std.proofs.Common.{ℕ, ◌≡◌, ◌≤◌, ◌↔◌, Some, map, get_or}
use Rattle.std.proofs.lemmas.Bool.{lt-ltb, ltb-true}
use Rattle.zp_claims.specs.declared.claim.Claim.{Claim}
use Rattle.zp_claims.specs.Codes.{claim_of, code_of}
use Rattle.zp_claims.specs.Noted.{noted_at}
use Rattle.zp_claims.proofs.Numbers.{number-tells}
use Rattle.zp_claims.proofs.table.ClaimTable.is_noted.Goals as goal

pub returns : goal.returns
returns c =
    let what : Claim = record { kind = c.args.kind; order = c.args.order } in
    let told : (1 ≤ get_or c.self.inside.numbers (code_of (Some what)) 0) ↔ ((b : ℕ) × (noted_at (map claim_of c.self.inside.codes.items) b ≡ Some what)) =
    number-tells c.self.inside.codes.items c.self.inside.numbers c.self.invariant what (rw (← c.code_of.ensures.same) c.code_of.ensures.within) in
    rw (c.code_of.ensures.same, ← c.self.view_is) (λ t. told.0 (ltb-true 0 _ t), λ x. lt-ltb 0 _ (told.1 x))
