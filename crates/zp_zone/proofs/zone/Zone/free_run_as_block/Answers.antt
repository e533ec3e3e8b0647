use Rattle.std.proofs.Common.{◌∙◌, ap, rules, sym}
use Rattle.zp_model.specs.Run.{is_out}
use Rattle.zp_model.specs.Runs.{may_free_run}
use Rattle.zp_zone.proofs.Tied.{has_in, pages_stay_but, run_in, run_new}
use Rattle.zp_zone.proofs.zone.Zone.free_run_as_block.Goals as goal

pub free_run_as_block-requires-clause-lent : goal.free_run_as_block-requires-clause-lent
free_run_as_block-requires-clause-lent c =
    let e = c.enter-worker in
    ap (λ w. may_free_run c.self.inside.untied.plain w c.args.page c.args.pages) e.ensures.worker
    ∙ run_in c.args.seat.now c.self.inside.keeper c.self.inside.untied.plain c.args.page c.args.pages e.ensures.agrees.0 c.self.invariant.0 c.lawful.ensures ∙ c.requires.has

pub free_run_as_block-requires-clause-block : goal.free_run_as_block-requires-clause-block
free_run_as_block-requires-clause-block c =
    let e = c.enter-worker in
    ap (λ w. is_out c.self.inside.untied.plain w c.args.page c.args.order) e.ensures.worker
    ∙ sym (has_in c.args.seat.now c.self.inside.keeper c.self.inside.untied.plain c.args.page c.args.order e.ensures.agrees.0 c.self.invariant.0) ∙ c.requires.block

pub returns-clause-gone : goal.returns-clause-gone
returns-clause-gone c =
    let e = c.enter-worker in
    run_new c.args.page c.args.pages e.new.self e.new.keeper c.free_run_as_block.new.self.plain e.ensures.agrees.1 (search rules) c.free_run_as_block.ensures.gone

pub returns-clause-kept : goal.returns-clause-kept
returns-clause-kept c =
    let e = c.enter-worker in
    pages_stay_but c.args.page c.args.pages c.args.seat.now e.new.self c.self.inside.keeper e.new.keeper c.self.inside.untied.plain c.free_run_as_block.new.self.plain e.ensures.agrees (search rules) c.self.invariant.0 (search rules)
    c.lawful.ensures c.lawful-2.ensures (rw e.ensures.worker at c.free_run_as_block.ensures.kept)
