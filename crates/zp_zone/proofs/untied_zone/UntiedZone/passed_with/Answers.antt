use Rattle.std.proofs.Common.{◌+◌, ◌-◌, ◌≡◌, false, arith}
use Rattle.zp_zone.proofs.LowestRuns.{passed_on}
use Rattle.zp_zone.proofs.untied_zone.UntiedZone.passed_with.Goals as goal

pub behind-init : goal.behind-init
behind-init c =
    let same : c.number-first.result + c.args.count - c.number-first.result ≡ c.args.count = omega arith in
    record { past = omega (arith, c.requires.some); passed = rw same c.requires }

pub behind-preserved : goal.behind-preserved
behind-preserved c =
    let i = c.behind.invariant in
    let here : c.args.at + (c.behind.next - c.number-first.result) ≡ c.at.result = omega (arith, c.at.ensures, c.number-first.ensures.same, i.past) in
    let all : c.behind.next - c.number-first.result + c.in-Some.block.count ≡ c.behind.next + c.in-Some.block.count - c.number-first.result = omega (arith, i.past) in
    let out : c.in-Some.block.serve ≡ false = c.if-block.false in
    record {
      past = omega (arith, i.past);
      passed = rw (← all) (passed_on c.args.self.now.plain c.args.at i.passed (rw here (rw out at c.in-Some.ensures.passed)));
    }
