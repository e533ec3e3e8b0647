use Rattle.std.proofs.Common.{◌∙◌}
use Rattle.zp_kernel.proofs.Frames.{get_is, inserted}
use Rattle.zp_kernel.proofs.frame_table.FrameTable.insert.Goals as goal

pub returns-clause-before : goal.returns-clause-before
returns-clause-before c = c.in_ok-before.ensures.old ∙ get_is _ _ c.args.frame c.self.view_is

pub returns-clause-after : goal.returns-clause-after
returns-clause-after c = inserted _ _ _ c.args.frame c.args.held c.self.view_is c.in_ok-before.ensures.updates.0
