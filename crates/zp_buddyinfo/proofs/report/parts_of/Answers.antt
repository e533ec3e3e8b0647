use Rattle.std.proofs.Common.{arith}
use Rattle.std.proofs.Math.Nat.{mul-le-mul_right}
use Rattle.zp_buddyinfo.proofs.report.parts_of.Goals as goal

pub returns-clause-within : goal.returns-clause-within
returns-clause-within c = omega (arith, mul-le-mul_right {m = c.min.result} {n = 1000} c.args.parts (omega arith))
