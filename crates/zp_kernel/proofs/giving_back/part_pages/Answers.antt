use Rattle.std.proofs.Common.{◌≤◌, ◌^◌, arith}
use Rattle.std.proofs.Math.Pow.{pow_mono}
use Rattle.zp_kernel.proofs.giving_back.part_pages.Goals as goal

-- that is more than any number of pages
pub returns-else-order-lt32-clause-pages : goal.returns-else-order-lt32-clause-pages
returns-else-order-lt32-clause-pages c =
    let all : 2 ^ 32 ≤ 2 ^ c.args.order = pow_mono c.if-order-lt32.false in
    omega (arith, all, c.pages_behind-behind.ensures.behind, c.pages_behind-behind.ensures.within)
