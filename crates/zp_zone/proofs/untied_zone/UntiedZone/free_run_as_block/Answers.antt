use Rattle.std.proofs.Common.{◌-◌, ◌≡◌, ◌∙◌, ap, arith}
use Rattle.zp_model.specs.Runs.{run_freed}
use Rattle.zp_model.specs.Zone.{PlainZone}
use Rattle.zp_zone.specs.NamedZone.{NamedZone}
use Rattle.zp_zone.proofs.RunsGiven.{freed_gone, freed_keeps}
use Rattle.zp_zone.proofs.untied_zone.UntiedZone.free_run_as_block.Goals as goal

pub returns-clause-after : goal.returns-clause-after
returns-clause-after c =
    let place : c.at-at.result ≡ c.args.page - c.args.self.now.plain.base = c.at-at.ensures ∙ omega (arith, c.number.ensures.same, ap (λ (z : NamedZone). z.plain.base) c.self.view_is) in
    let with_plain : PlainZone → NamedZone = λ z. record c.args.self.now { plain = z } in
    c.free_whole.ensures
    ∙ ap (λ n. with_plain (run_freed c.args.self.now.plain c.args.worker c.at-at.result n)) c.requires.size
    ∙ ap (λ h. with_plain (run_freed c.args.self.now.plain c.args.worker h c.args.pages)) place

pub returns-clause-gone : goal.returns-clause-gone
returns-clause-gone c =
    rw (returns-clause-after c) (freed_gone c.args.self.now.plain c.args.worker c.args.page c.args.pages c.lawful.ensures c.requires.worker c.requires.lent)

pub returns-clause-kept : goal.returns-clause-kept
returns-clause-kept c =
    rw (returns-clause-after c) (freed_keeps c.args.self.now.plain c.args.worker c.args.page c.args.pages c.lawful.ensures c.requires.worker c.requires.lent)
