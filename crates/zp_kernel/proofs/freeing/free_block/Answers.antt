use Rattle.std.proofs.Common.{ℕ, ◌≡◌, ◌∙◌, sym, ap, Ok, Err, None, OnOk}
use Rattle.std.specs.Prelude.{Option, Result}
use Rattle.std.specs.FinMap.{get}
use Rattle.zp_events.specs.declared.event.FrameBlock.{FrameBlock}
use Rattle.zp_kernel.specs.declared.held.Held.{Held}
use Rattle.zp_kernel.specs.declared.kernel_state.KernelState.{KernelState}
use Rattle.zp_kernel.specs.Events.{freed, freed_at}
use Rattle.zp_kernel.proofs.freeing.free_block.Goals as goal

-- the frame holds none
none_held : {A E : Type 0} (r : Result A E) (w : ℕ) (x : FrameBlock) (b s : KernelState) (o : Option Held) → o ≡ None → o ≡ get b.frames x.frame →
    OnOk r (s ≡ freed_at w x None b) → OnOk r (s ≡ freed w x b)
none_held (Ok a) w x b s o none found e = e ∙ ap (λ p. freed_at w x p b) (sym none ∙ found)
none_held (Err a) w x b s o none found e = tt

pub returns-in-None-clause-after : goal.returns-in-None-clause-after
returns-in-None-clause-after c = none_held c.free_inside.result c.args.by c.args.block.now c.args.state.now c.free_inside.new.state c.get.result c.in-None.is c.get.ensures c.free_inside.ensures.after
