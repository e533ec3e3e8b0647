use Rattle.std.proofs.Common.{sym, ◌∙◌, ap, refl}
use Rattle.zp_kernel.specs.declared.kernel_state.KernelState.{KernelState}
use Rattle.zp_kernel.specs.declared.held.Held.{Held}
use Rattle.zp_kernel.specs.Events.{still_held}
use Rattle.zp_kernel.proofs.Handing.{handed, place_stays}
use Rattle.zp_kernel.proofs.handing_out.hand_out.Goals as goal

pub ask-requires-clause-place : goal.ask-requires-clause-place
ask-requires-clause-place c =
    place_stays c.args.by c.args.block.now.frame c.in_ok-before.before (record c.args.state.now { frames = c.insert.new.self }) c.clear.new.state
    (record { lent = record { zone = c.top-top.result; page = c.new.result; order = c.in-Some.order }; worker = c.args.by })
    c.clear.ensures.after c.args.state.now.frames c.in_ok-before.ensures.after

pub returns-clause-after : goal.returns-clause-after
returns-clause-after c =
    let place : Held = record { lent = record { zone = c.top-top.result; page = c.new.result; order = c.in-Some.order }; worker = c.args.by } in
    let b : KernelState = c.args.state.now in
    handed c.args.setting.now c.args.by c.args.block.now c.args.request.now c.in-Some-kind_of.kind c.top-top.result c.in_ok-before.before place b c.clear.new.state c.ask.new.state
    (c.in-Some.ensures.when.0 refl) (sym c.in-Some-kind_of.is ∙ c.kind_of.ensures) c.top-top.ensures c.in_ok-before.ensures.before
    (c.clear.ensures.after ∙ ap (λ fs. still_held c.args.by c.in_ok-before.before (let x : KernelState = record b { frames = fs } in x)) c.in_ok-before.ensures.after)
    c.ask.ensures.after
