use Rattle.std.proofs.Common.{◌≡◌, arith}
use Rattle.zp_numbers.proofs.Numbers.{same_number}
use Rattle.zp_trace.proofs.WordLists.{where_none}
use Rattle.zp_trace.proofs.values.largest_of.Goals as goal

pub returns-then-largest-clause-none : goal.returns-then-largest-clause-none
returns-then-largest-clause-none c =
    where_none c.new.result (λ none m is e.
    let same : m ≡ c.in_ok-largest.largest = same_number c.args.word.now m c.in_ok-largest.largest (omega (arith, is.1)) (omega (arith, c.in_ok-largest.ensures.fits)) e c.in_ok-largest.ensures.some in
    none (c.new.ensures.when.1 (omega (arith, is.0, same), omega (arith, is.1, same))))

pub returns-else-largest-clause-none : goal.returns-else-largest-clause-none
returns-else-largest-clause-none c m is e =
    let same : m ≡ c.in_ok-largest.largest = same_number c.args.word.now m c.in_ok-largest.largest (omega (arith, is.1)) (omega (arith, c.in_ok-largest.ensures.fits)) e c.in_ok-largest.ensures.some in
    omega (arith, is.1)
