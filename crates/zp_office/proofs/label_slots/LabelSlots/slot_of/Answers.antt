use Rattle.std.proofs.Common.{List, sym, ap, nat_cmp, ◌∙◌}
use Rattle.std.specs.BTreeMap.{get}
use Rattle.zp_trace.specs.declared.line.Call.{Call}
use Rattle.zp_office.specs.Scripts.{slot_of}
use Rattle.zp_office.proofs.FirstBinders.{slot_nowhere}
use Rattle.zp_office.proofs.label_slots.LabelSlots.slot_of.Goals as goal

pub returns-in-None : goal.returns-in-None
returns-in-None c =
    slot_nowhere c.self.inside.calls.now c.args.label (sym (c.self.invariant c.args.label c.label_key.ensures.name) ∙ ap (get nat_cmp c.self.inside.slots) (sym c.label_key.ensures.key) ∙ sym c.in-None.ensures.value)
    ∙ ap (λ (calls : List Call). slot_of calls c.args.label) c.self.view_is
