use Rattle.std.proofs.Common.{ℕ, suc, ◌+◌, ◌-◌, ◌≡◌, ◌≤◌, ◌<◌, ◌^◌, inl, inr, refl, arith}
use Rattle.std.specs.Int.Count.{count_leading_zeros}
use Rattle.std.proofs.Math.Nat.{pow-le-pow_right}
use Rattle.std.proofs.lemmas.Bool.{cases_lt}
use Rattle.std.proofs.lemmas.Nat.{leading_top}
use Rattle.zp_area.proofs.splits.order_within.Goals as goal

-- the place of the top bit
top : (pages k : ℕ) → 0 < pages → pages < 2 ^ 32 → k ≡ 31 - count_leading_zeros 32 pages → (2 ^ k ≤ pages) × (pages < 2 ^ (k + 1))
top pages k some wide e =
    let x = leading_top 32 pages some wide in
    let same : x.0 ≡ k = omega (arith, x.1, e) in
    let up : suc k ≡ k + 1 = omega arith in
    (rw same at x.2, rw (← up) (rw same at x.3))

-- it is that of an order, where a largest block has more pages
few : (pages k : ℕ) → 2 ^ k ≤ pages → pages < 2 ^ 11 → k ≤ 10
few pages k le lt = elim (cases_lt k 11) [
  | inl below ↦ omega arith
  | inr ge ↦ let more : 2 ^ 11 ≤ 2 ^ k = pow-le-pow_right (omega arith) ge in absurd (omega arith)
]

pub at-requires : goal.at-requires
at-requires c =
    few c.args.pages (31 - count_leading_zeros 32 c.args.pages) (top c.args.pages (31 - count_leading_zeros 32 c.args.pages) c.requires.some (omega (arith, c.requires.few)) refl).0 c.requires.few

pub returns : goal.returns
returns c =
    let x = top c.args.pages c.at.result c.requires.some (omega (arith, c.requires.few)) c.at.ensures in
    record { within = x.0; greatest = x.1 }
