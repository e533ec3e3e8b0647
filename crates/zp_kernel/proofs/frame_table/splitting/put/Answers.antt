use Rattle.std.proofs.Common.{refl}
use Rattle.zp_kernel.proofs.Frames.{inserted}
use Rattle.zp_kernel.proofs.frame_table.splitting.put.Goals as goal

pub returns-clause-after : goal.returns-clause-after
returns-clause-after c = inserted _ _ _ c.args.frame c.args.held refl c.in-Ok.ensures.updates.0
