use Rattle.std.proofs.Common.{◌-◌, arith}
use Rattle.zp_zone.proofs.LowestRuns.{rest_passed}
use Rattle.zp_zone.proofs.untied_zone.UntiedZone.rest_of.Goals as goal

pub returns-in_default-clause-none : goal.returns-in_default-clause-none
returns-in_default-clause-none c = λ k e. absurd (c.in_default.ensures.none k e)

pub returns-then-block-before-clause-none : goal.returns-then-block-before-clause-none
returns-then-block-before-clause-none c = λ k e. omega (arith, c.in-Some.ensures.whole k e, c.if-block-before.true, c.number-next.ensures.same, c.number-first.ensures.same, c.requires.before)

pub returns-clause-passed : goal.returns-clause-passed
returns-clause-passed c =
    rest_passed c.args.self.now.plain c.args.head c.args.at (c.number-next.result - c.number-first.result) (omega (arith, c.number-next.ensures.same, c.number-first.ensures.same, c.requires.before))
    (omega (arith, c.if-block-before.false)) c.in-Some.ensures.passed
