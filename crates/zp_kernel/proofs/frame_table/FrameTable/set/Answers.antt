use Rattle.std.proofs.Common.{◌∙◌, sym, subst, IsSome, None}
use Rattle.std.specs.Prelude.{Option}
use Rattle.zp_kernel.proofs.Frames.{get_is, inserted}
use Rattle.zp_kernel.specs.declared.held.Held.{Held}
use Rattle.zp_kernel.proofs.frame_table.FrameTable.set.Goals as goal

pub unreachable-requires : goal.unreachable-requires
unreachable-requires c =
    let none : IsSome {T = Held} None =
    subst (λ (o : Option Held). IsSome o) (sym (get_is _ _ c.args.frame c.self.view_is) ∙ c.in-Err.ensures.absent) c.requires in
    cc

pub returns : goal.returns
returns c = inserted _ _ _ c.args.frame c.args.held c.self.view_is c.in-Ok.ensures.updates.0
