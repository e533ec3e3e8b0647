use Rattle.std.proofs.Common.{rules}
use Rattle.zp_zone.proofs.Tied.{blocks_stay}
use Rattle.zp_zone.proofs.zone.Zone.refill.Goals as goal

pub returns-clause-kept : goal.returns-clause-kept
returns-clause-kept c =
    let e = c.enter-worker in
    blocks_stay c.args.seat.now e.new.self c.self.inside.keeper e.new.keeper c.self.inside.untied.plain c.refill.new.self.plain e.ensures.agrees (search rules) c.self.invariant.0 (search rules) c.refill.ensures.kept
