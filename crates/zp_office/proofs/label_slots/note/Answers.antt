use Rattle.std.proofs.Common.{sym, ◌∙◌}
use Rattle.zp_office.proofs.FirstBinders.{slots_more, slots_kept}
use Rattle.zp_office.proofs.label_slots.note.Goals as goal

pub returns-in_ok-insert : goal.returns-in_ok-insert
returns-in_ok-insert c calls last =
    slots_more calls c.args.call.now c.in-Some.label c.args.slots.now c.insert.new.self c.label_key-key.result c.args.slot c.label_key-key.ensures.key last c.label_key-key.ensures.name (sym c.bound_label.ensures ∙ c.in-Some.is) (sym c.if-not-contains_key.ensures) c.in_ok-insert.ensures.updates

pub returns-else-not-contains_key : goal.returns-else-not-contains_key
returns-else-not-contains_key c calls last =
    slots_kept calls c.args.call.now c.in-Some.label c.args.slots.now c.label_key-key.result c.label_key-key.ensures.key c.label_key-key.ensures.name (sym c.bound_label.ensures ∙ c.in-Some.is) (sym c.if-not-contains_key.ensures)
