use Rattle.std.proofs.Common.{◌≡◌, arith, inl, inr}
use Rattle.zp_numbers.proofs.Numbers.{same_number}
use Rattle.zp_trace.proofs.values.base_of.Goals as goal

pub returns-else-base-eq0-clause-none : goal.returns-else-base-eq0-clause-none
returns-else-base-eq0-clause-none c n is e =
    let same : n ≡ c.in_ok-base.base = same_number c.args.word.now n c.in_ok-base.base (omega (arith, is.1)) (omega (arith, c.in_ok-base.ensures.fits)) e c.in_ok-base.ensures.some in
    elim c.else-base-eq0.either [ inl far ↦ omega (arith, far.1, is.1) | inr uneven ↦ uneven (rw (← same) is.0) ]
