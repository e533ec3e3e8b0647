use Rattle.std.proofs.Common.{ℕ, ◌≡◌, ◌<◌, ◌*◌, ◌^◌, ◌%◌, arith, ap}
use Rattle.zp_buddyinfo.specs.declared.bounds.TheConstants.{ORDERS}
use Rattle.std.proofs.Math.Nat.{pow-le-pow_right}
use Rattle.std.proofs.lemmas.Nat.{mul-le}
use Rattle.zp_buddyinfo.proofs.report.push_largest.Goals as goal

-- the bytes of a block fit
fits : (page k : ℕ) → page < 2 ^ 64 → k < ORDERS → page * 2 ^ k < 2 ^ 128
fits page k small lt =
    omega (arith, mul-le page (2 ^ k) (2 ^ 64) (2 ^ 20) (omega arith) (pow-le-pow_right {n = 2} (omega arith) {i = k} {j = 20} (omega arith)))

power : (k : ℕ) → k < ORDERS → 1 * 2 ^ k % 2 ^ 128 ≡ 2 ^ k
power k lt = omega (arith, pow-le-pow_right {n = 2} (omega arith) {i = k} {j = 20} (omega arith))

pub overflow_mul-from : goal.overflow_mul-from
overflow_mul-from c =
    let order : c.in-Some.order < ORDERS = rw c.in-Some.is at c.requires in
    omega (arith, power c.in-Some.order order, ap (λ m. c.from.result * m) (power c.in-Some.order order), fits c.from.result c.in-Some.order (omega arith) order)
