use Rattle.std.proofs.Common.{rules, ◌≡◌, refl, replicate}
use Rattle.zp_claims.specs.declared.code.TheConstants.{CODES}
use Rattle.zp_claims.proofs.Numbers.{none-noted, numbered-none, zero-code}
use Rattle.zp_claims.proofs.table.ClaimTable.new.Goals as goal

pub invariant_of-result : goal.invariant_of-result
invariant_of-result c =
    let e : c.in_ok-codes.codes.items ≡ replicate c.args.pageblocks c.code_of-nothing.result = search rules in
    rw (e, c.code_of-nothing.ensures.same) (numbered-none c.args.pageblocks (replicate CODES 0) c.requires refl (zero-code CODES))

pub returns : goal.returns
returns c =
    let e : c.in_ok-codes.codes.items ≡ replicate c.args.pageblocks c.code_of-nothing.result = search rules in
    rw (e, c.code_of-nothing.ensures.same) (none-noted c.args.pageblocks)
