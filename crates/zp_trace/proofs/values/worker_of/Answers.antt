use Rattle.std.proofs.Common.{◌≡◌, arith}
use Rattle.zp_numbers.proofs.Numbers.{same_number}
use Rattle.zp_trace.proofs.values.worker_of.Goals as goal

pub returns-else-number-workers-clause-none : goal.returns-else-number-workers-clause-none
returns-else-number-workers-clause-none c w is e =
    let same : w ≡ c.in_ok-number.number = same_number c.args.word.now w c.in_ok-number.number (omega (arith, is, c.requires.1)) (omega (arith, c.in_ok-number.ensures.fits)) e c.in_ok-number.ensures.some in
    omega (arith, is)
