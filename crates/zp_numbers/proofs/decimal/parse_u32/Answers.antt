use Rattle.std.proofs.Common.{arith}
use Rattle.zp_numbers.proofs.Numbers.{same_number}
use Rattle.zp_numbers.proofs.decimal.parse_u32.Goals as goal

pub returns-in_default-clause-none : goal.returns-in_default-clause-none
returns-in_default-clause-none c n small e =
    let same = same_number _ n c.in_ok-parse_u64.field-0 (omega (arith, small)) c.in_ok-parse_u64.ensures.fits e c.in_ok-parse_u64.ensures.some in
    c.in_default.ensures (omega (arith, same, small))
