use Rattle.std.proofs.Common.{◌≡◌, arith, inl, inr}
use Rattle.zp_numbers.proofs.Numbers.{same_number}
use Rattle.zp_trace.proofs.values.pages_of.Goals as goal

pub returns-else-pages-gt0-clause-none : goal.returns-else-pages-gt0-clause-none
returns-else-pages-gt0-clause-none c n is e =
    let same : n ≡ c.in_ok-pages.pages = same_number c.args.word.now n c.in_ok-pages.pages (omega (arith, is.1)) (omega (arith, c.in_ok-pages.ensures.fits)) e c.in_ok-pages.ensures.some in
    elim c.else-pages-gt0.either [ inl far ↦ omega (arith, far.1, is.1) | inr none ↦ omega (arith, none, is.0) ]
