use Rattle.std.proofs.Common.{take}
use Rattle.zp_office.specs.Slots.{AreSlotsOf}
use Rattle.zp_office.proofs.label_slots.LabelSlots.of.Given as goal

-- the slots of the labels that the calls so far bind
abbrev pub invariant-loop-slot : goal.invariant-loop-slot
invariant-loop-slot l = AreSlotsOf (take l.slot l.calls) l.slots
