use Rattle.std.proofs.Common.{arith, ◌≡◌, ◌^◌}
use Rattle.std.specs.Int.Bits.{bit_xor}
use Rattle.std.proofs.lemmas.Nat.{xor_lt}
use Rattle.zp_model.proofs.Buddies.{turned_buddy}
use Rattle.zp_model.proofs.page.PageAt.buddy.Goals as goal

-- the bound is a power of two, so no bit that is turned passes it
pub at-requires : goal.at-requires
at-requires c = xor_lt 24 c.number.result c.pages.result (omega (arith, c.number.ensures.within)) (omega (arith, c.pages.ensures.within))

pub returns : goal.returns
returns c =
    let turned : c.at.result ≡ bit_xor c.args.self (2 ^ c.args.order) = grind (arith, c.at.ensures, c.number.ensures.same, c.pages.ensures.pages) in
    turned_buddy c.args.self c.args.order c.at.result turned c.requires
