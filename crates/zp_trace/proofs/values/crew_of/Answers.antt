use Rattle.std.proofs.Common.{◌≡◌, arith, inl, inr}
use Rattle.zp_numbers.proofs.Numbers.{same_number}
use Rattle.zp_trace.proofs.values.crew_of.Goals as goal

pub returns-else-workers-gt0-clause-none : goal.returns-else-workers-gt0-clause-none
returns-else-workers-gt0-clause-none c n is e =
    let same : n ≡ c.in_ok-workers.workers = same_number c.args.word.now n c.in_ok-workers.workers (omega (arith, is.1)) (omega (arith, c.in_ok-workers.ensures.fits)) e c.in_ok-workers.ensures.some in
    elim c.else-workers-gt0.either [ inl far ↦ omega (arith, far.1, is.1) | inr none ↦ omega (arith, none, is.0) ]
