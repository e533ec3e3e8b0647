use Rattle.std.proofs.Common.{ℕ, ◌≤◌, ◌<◌, ◌+◌, ◌^◌, inl, inr, arith}
use Rattle.std.proofs.lemmas.Bool.{cases_lt}
use Rattle.std.proofs.lemmas.Nat.{pow_below}
use Rattle.zp_model.specs.Block.{head}
use Rattle.zp_model.specs.RunLaws.{IsFitting}
use Rattle.zp_model.proofs.Cuts.{fitting}
use Rattle.zp_model.proofs.Heads.{aligned_down, head_self}
use Rattle.zp_buddy.proofs.cut.covering_order.Goals as goal

-- a smaller run than one that begins the pages, and has no more, is too small
too_small : (m h n f k : ℕ) → IsFitting m h n f → k < f → head h k + 2 ^ k < h + n
too_small m h n f k x lt = omega (arith, head_self h k (aligned_down k f h (omega arith) x.aligned), pow_below k f lt, x.inside)

begins : (m h n f most : ℕ) → IsFitting m h n f → h + n ≤ head h most + 2 ^ most → f ≤ most
begins m h n f most x within = elim (cases_lt most f) [ inr le ↦ le | inl lt ↦ absurd (omega (arith, too_small m h n f most x lt)) ]

pub orders-init : goal.orders-init
orders-init c =
    let x = fitting c.args.largest c.args.at c.args.pages (omega (arith, c.requires.some)) in
    rw c.fitting_order-order.ensures (begins c.args.largest c.args.at c.args.pages _ c.args.most x c.requires.within, λ k lt. too_small c.args.largest c.args.at c.args.pages _ k x lt)
