use Rattle.std.proofs.Common.{◌≡◌, ◌<◌, ◌^◌, arith}
use Rattle.zp_numbers.proofs.Numbers.{same_number}
use Rattle.zp_trace.proofs.values.min_of.Goals as goal

pub returns-else-min-pages-clause-none : goal.returns-else-min-pages-clause-none
returns-else-min-pages-clause-none c n is e =
    let small : n < 2 ^ 64 = omega (arith, is) in
    let same : n ≡ c.in_ok-min.min = same_number c.args.word.now n c.in_ok-min.min small (omega (arith, c.in_ok-min.ensures.fits)) e c.in_ok-min.ensures.some in
    omega (arith, is)
