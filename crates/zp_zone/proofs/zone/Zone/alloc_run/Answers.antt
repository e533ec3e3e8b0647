use Rattle.std.proofs.Common.{rules}
use Rattle.zp_zone.proofs.Tied.{blocks_stay, given_run_if}
use Rattle.zp_zone.proofs.zone.Zone.alloc_run.Goals as goal

pub returns-clause-given : goal.returns-clause-given
returns-clause-given c =
    let e = c.enter-worker in
    given_run_if c.args.pages e.result c.alloc_run-got.result c.args.seat.now e.new.self c.self.inside.keeper e.new.keeper c.self.inside.untied.plain c.alloc_run-got.new.self.plain e.ensures.agrees (search rules) c.self.invariant.0 (search rules)
    e.ensures.worker c.lawful.ensures c.alloc_run-got.ensures.lent c.alloc_run-got.ensures.fresh

pub returns-clause-kept : goal.returns-clause-kept
returns-clause-kept c =
    let e = c.enter-worker in
    blocks_stay c.args.seat.now e.new.self c.self.inside.keeper e.new.keeper c.self.inside.untied.plain c.alloc_run-got.new.self.plain e.ensures.agrees (search rules) c.self.invariant.0 (search rules) c.alloc_run-got.ensures.kept
