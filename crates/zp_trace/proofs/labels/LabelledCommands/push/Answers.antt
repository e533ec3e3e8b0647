use Rattle.std.proofs.Common.{[], ◌∷◌, ◌++◌, true, nat_cmp, List, sym, ap, subst, ◌∙◌}
use Rattle.std.specs.BTreeSet.{Updates}
use Rattle.zp_trace.specs.declared.line.CommandLine.{CommandLine}
use Rattle.zp_trace.proofs.BoundLabels.{bound_as, bound_more, bound_same}
use Rattle.zp_trace.proofs.labels.LabelledCommands.push.Goals.{in-Some+in_ok-insert, in_default}
use Rattle.zp_trace.proofs.labels.LabelledCommands.push.Goals as goal

pub invariant_of-self-2 : goal.invariant_of-self-2
invariant_of-self-2 c =
    let d : CommandLine = c.args.command in
    let room = ap (λ (cs : List CommandLine). cs ++ d ∷ []) c.in_ok-reserve.ensures.items in
    elim c.match-bound_label.branch [
      | in-Some+in_ok-insert w ↦
          let noted = subst (λ k. Updates nat_cmp c.self.inside.bound w.insert.new.self k true) w.bound_key.ensures.key w.in_ok-insert.ensures.updates in
          bound_as _ _ _ _ (c.push_reserved.ensures.items ∙ ap (λ i. i.commands.items ++ d ∷ []) w.self-inside-is ∙ room) (ap (λ i. i.bound) w.self-inside-is)
          (bound_more c.self.inside.commands.items d w.in-Some.label c.self.inside.bound w.insert.new.self w.bound_key.ensures.worker w.bound_key.ensures.name (sym c.bound_label.ensures ∙ w.in-Some.is) noted c.self.invariant)
      | in_default w ↦
          bound_as _ _ _ _ (c.push_reserved.ensures.items ∙ ap (λ i. i.commands.items ++ d ∷ []) w.self-inside-is ∙ room) (ap (λ i. i.bound) w.self-inside-is)
          (bound_same c.self.inside.commands.items d c.self.inside.bound (sym c.bound_label.ensures ∙ w.in_default.is) c.self.invariant)
    ]
