use Rattle.std.proofs.Common.{ℕ, ◌≡◌, ◌≤◌, ◌<◌, ◌+◌, ◌^◌, get_or}
use Rattle.std.specs.Int.Bits.{bit_xor}
use Rattle.zp_zone.proofs.untied_zone.turned.is_other_half.Given as goal

-- the pages so far are those of the other half
abbrev pub invariant-pages : goal.invariant-pages
invariant-pages l = (d : ℕ) → 2 ^ l.fn.order ≤ d → d < l.it → get_or l.pages d 0 ≡ l.base + bit_xor l.first d
