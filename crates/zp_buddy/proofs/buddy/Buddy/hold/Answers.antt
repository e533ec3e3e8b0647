use Rattle.zp_area.proofs.Holding.{IsHolding, noted_set}
use Rattle.zp_buddy.proofs.ClearByLooks.{one_held}
use Rattle.zp_buddy.proofs.HeldNotes.{held_noted}
use Rattle.zp_buddy.proofs.buddy.Buddy.hold.Goals as goal

pub invariant_of-self : goal.invariant_of-self
invariant_of-self c =
    let a = c.self.inside.area in
    let y : IsHolding c.self.inside.area.largest a c.args.at c.args.state = record { one = one_held c.self.inside.area.largest a _ c.self.invariant; used = rw (← c.self.view_is) at c.requires.used; note = c.requires.note } in
    rw c.hold.ensures.after (held_noted a c.self.inside.free c.args.at c.args.state c.self.invariant y)

pub returns-clause-after : goal.returns-clause-after
returns-clause-after c =
    let a = c.self.inside.area in
    let y : IsHolding c.self.inside.area.largest a c.args.at c.args.state = record { one = one_held c.self.inside.area.largest a _ c.self.invariant; used = rw (← c.self.view_is) at c.requires.used; note = c.requires.note } in
    rw (← c.self.view_is, c.hold.ensures.after, noted_set c.self.inside.area.largest a c.args.at c.args.state y)

pub returns-clause-kept : goal.returns-clause-kept
returns-clause-kept c h k x = rw (returns-clause-after c) (record { block = x.block; free = x.free; aside = x.aside })
