use Rattle.std.proofs.Common.{subst, sym, ◌∙◌}
use Rattle.zp_events.specs.declared.flags.ZoneNames.{ZoneNames}
use Rattle.zp_events.proofs.FlagNames.{AreSoFar, more_so_far, all_so_far}
use Rattle.zp_events.proofs.flags.names_of.Goals as goal

pub names-preserved : goal.names-preserved
names-preserved c =
    subst (λ (names : ZoneNames). AreSoFar names c.in-Some.after.now c.args.flags.now) (sym c.with_name-names.ensures)
    (more_so_far c.names.names c.names.rest.now c.in-Some.name.now c.in-Some.after.now c.args.flags.now c.in-Some.ensures.some.0 c.in-Some.ensures.some.1 c.names.invariant)

pub returns : goal.returns
returns c =
    c.with_name.ensures ∙ all_so_far c.names.names c.names.rest.now c.args.flags.now c.in_default.ensures.none c.names.invariant
