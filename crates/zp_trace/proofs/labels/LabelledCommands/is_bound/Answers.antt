use Rattle.std.proofs.Common.{◌↔◌, Any, IsTrue, List, ap, subst, nat_cmp, ◌∙◌}
use Rattle.std.specs.BTreeSet.{contains}
use Rattle.zp_trace.specs.declared.line.CommandLine.{CommandLine}
use Rattle.zp_trace.specs.Grammar.{Binds}
use Rattle.zp_trace.proofs.BoundLabels.{tells_bound}
use Rattle.zp_trace.proofs.labels.LabelledCommands.is_bound.Goals as goal

pub returns : goal.returns
returns c =
    subst (λ (cs : List CommandLine). IsTrue c.contains.result ↔ Any (Binds c.args.worker c.args.label) cs) c.self.view_is
    (tells_bound c.self.inside.commands.items c.self.inside.bound c.args.worker c.args.label c.contains.result c.bound_key.ensures.worker c.bound_key.ensures.name c.self.invariant (c.contains.ensures ∙ ap (contains nat_cmp c.self.inside.bound) c.bound_key.ensures.key))
