use Rattle.std.proofs.Common.{◌∙◌}
use Rattle.zp_kernel.proofs.Frames.{get_is}
use Rattle.zp_kernel.proofs.frame_table.FrameTable.get.Goals as goal

pub returns : goal.returns
returns c = c.copied.ensures ∙ c.get.ensures.value ∙ get_is _ _ c.args.frame c.self.view_is
