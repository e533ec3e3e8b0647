use Rattle.std.proofs.Common.{◌∙◌}
use Rattle.zp_kernel.proofs.Frames.{get_is, removed}
use Rattle.zp_kernel.proofs.frame_table.FrameTable.remove.Goals as goal

pub returns-clause-before : goal.returns-clause-before
returns-clause-before c = c.remove.ensures.value ∙ get_is _ _ c.args.frame c.self.view_is

pub returns-clause-after : goal.returns-clause-after
returns-clause-after c = removed _ _ _ c.args.frame c.self.view_is c.remove.ensures.updates.0
