use Rattle.std.proofs.Common.{◌≤◌, ◌^◌, arith}
use Rattle.std.proofs.lemmas.Nat.{one_shl}
use Rattle.std.proofs.Math.Nat.{pow-le-pow_right}
use Rattle.zp_model.proofs.order.Order.pages.Goals as goal

pub returns-clause-within : goal.returns-clause-within
returns-clause-within c =
    let within : 2 ^ c.self.inside.number ≤ 2 ^ 10 = pow-le-pow_right (omega arith) c.self.invariant in
    omega (arith, one_shl c.self.inside.number 32 (omega (arith, c.self.invariant)))
