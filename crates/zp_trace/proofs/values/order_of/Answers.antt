use Rattle.std.proofs.Common.{◌≡◌, arith}
use Rattle.zp_numbers.proofs.Numbers.{same_number}
use Rattle.zp_trace.proofs.values.order_of.Goals as goal

pub returns-else-number-clause-none : goal.returns-else-number-clause-none
returns-else-number-clause-none c k is e =
    let same : k ≡ c.in_ok-number.number = same_number c.args.word.now k c.in_ok-number.number (omega arith) (omega (arith, c.in_ok-number.ensures.fits)) e c.in_ok-number.ensures.some in
    omega arith
