use Rattle.zp_laws.proofs.Areas.{clear_retyped}
use Rattle.zp_buddy.proofs.Claiming.{held_retyped, retyped_frames}
use Rattle.zp_buddy.specs.Choices.{frames_in}
use Rattle.zp_buddy.proofs.buddy.Buddy.retype.Goals as goal

pub invariant_of-self : goal.invariant_of-self
invariant_of-self c = rw c.retype.ensures.after (held_retyped c.self.inside.area.largest c.self.inside.area c.args.pageblock c.args.kind c.self.inside.free c.self.invariant)

pub returns-clause-after : goal.returns-clause-after
returns-clause-after c =
    rw (← c.self.view_is, c.retype.ensures.after) (retyped_frames c.self.inside.area.largest c.self.inside.area c.args.pageblock c.args.kind c.self.invariant.sound)

pub returns-clause-kept : goal.returns-clause-kept
returns-clause-kept c =
    rw (← c.self.view_is, c.retype.ensures.after, retyped_frames c.self.inside.area.largest c.self.inside.area c.args.pageblock c.args.kind c.self.invariant.sound)
    (clear_retyped (frames_in c.self.inside.area.largest c.self.inside.area) c.args.pageblock c.args.kind)
