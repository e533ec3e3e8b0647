use Rattle.std.proofs.Common.{◌≡◌, ◌≤◌, arith}
use Rattle.zp_trace.specs.declared.bounds.TheConstants.{LARGEST_PAGEBLOCK}
use Rattle.zp_numbers.proofs.Numbers.{same_number}
use Rattle.zp_trace.proofs.values.pageblock_of.Goals as goal

pub returns-else-may_be_pageblock-clause-none : goal.returns-else-may_be_pageblock-clause-none
returns-else-may_be_pageblock-clause-none c n is e =
    let same : n ≡ c.in_ok-pageblock.pageblock = same_number c.args.word.now n c.in_ok-pageblock.pageblock (omega (arith, is)) (omega (arith, c.in_ok-pageblock.ensures.fits)) e c.in_ok-pageblock.ensures.some in
    let within : c.in_ok-pageblock.pageblock ≤ LARGEST_PAGEBLOCK = omega (arith, is, same) in
    let yes = c.if-may_be_pageblock.ensures.1 within in
    cc
