use Rattle.std.proofs.Common.{rules}
use Rattle.zp_zone.proofs.Tied.{blocks_stay_beside, all_new}
use Rattle.zp_zone.proofs.zone.Zone.drain.Goals as goal

pub returns-clause-gone : goal.returns-clause-gone
returns-clause-gone c =
    let e = c.enter-worker in
    all_new e.new.self e.new.keeper c.drain.new.self.plain c.args.pages.now e.ensures.agrees.1 (search rules) c.drain.ensures.gone

pub returns-clause-kept : goal.returns-clause-kept
returns-clause-kept c =
    let e = c.enter-worker in
    blocks_stay_beside c.args.pages.now c.args.seat.now e.new.self c.self.inside.keeper e.new.keeper c.self.inside.untied.plain c.drain.new.self.plain e.ensures.agrees (search rules) c.self.invariant.0 (search rules) c.drain.ensures.kept
