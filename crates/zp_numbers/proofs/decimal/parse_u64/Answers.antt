use Rattle.std.proofs.Common.{arith}
use Rattle.std.proofs.lemmas.Bool.Decides.{nat_tests}
use Rattle.zp_numbers.proofs.Numbers.{not_empty, no_leading_zero, digit, front, more, all}
use Rattle.zp_numbers.proofs.decimal.parse_u64.Goals as goal
use Rattle.zp_numbers.proofs.decimal.parse_u64.Goals.{then-is_empty-via-then-is_empty, then-is_empty-via-else-is_empty+then-word-gt1}

pub returns-then-is_empty-clause-none : goal.returns-then-is_empty-clause-none
returns-then-is_empty-clause-none c n small e =
    elim c.then-is_empty.branch [
      | then-is_empty-via-then-is_empty w ↦
          let some = not_empty _ n small e in grind (arith, nat_tests)
      | then-is_empty-via-else-is_empty+then-word-gt1 w ↦
          omega (arith, no_leading_zero _ n small e w.if-word-gt1.true.0)
    ]

pub returns-then-not-is_ascii_digit-clause-none : goal.returns-then-not-is_ascii_digit-clause-none
returns-then-not-is_ascii_digit-clause-none c n small e =
    let d = digit _ n c.loop-digit.digit-index small e c.loop-digit-test.true in grind (arith, nat_tests)

pub returns-in_default-clause-none : goal.returns-in_default-clause-none
returns-in_default-clause-none c n small e =
    omega (arith, front _ n c.loop-digit.digit-index small e c.loop-digit-test.true, c.loop-digit.invariant.number, c.in_default.ensures.none)

pub loop-digit-preserved : goal.loop-digit-preserved
loop-digit-preserved c =
    let p = more _ _ _ _ c.loop-digit-test.true c.if-not-is_ascii_digit.ensures.cases c.loop-digit.invariant.digits c.loop-digit.invariant.number c.in-Some.ensures.some in
    record { small = c.in-Some.ensures.fits; digits = p.0; number = p.1 }

pub returns-clause-some : goal.returns-clause-some
returns-clause-some c =
    all _ _ _ c.loop-digit-test.false c.loop-digit.invariant.digits c.loop-digit.invariant.number (grind (arith, nat_tests)) (λ zero. grind (arith, nat_tests)) c.loop-digit.invariant.small
