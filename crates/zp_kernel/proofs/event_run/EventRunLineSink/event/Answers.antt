use Rattle.std.proofs.Common.{ap, ◌∙◌}
use Rattle.zp_kernel.specs.Lines.{with_event}
use Rattle.zp_kernel.proofs.Steps.{at_any_rate, carries}
use Rattle.zp_kernel.proofs.event_run.EventRunLineSink.event.Goals as goal

pub returns-clause-carried : goal.returns-clause-carried
returns-clause-carried g c =
    at_any_rate c.event.result
    (carries g.O.Onlooker.hears g.O.Onlooker.opens c.args.self.now.onlooker c.event.new.self c.args.self.now.kernel c.open.new.self.kernel c.in-Some.kernel c.carry_out.new.self c.args.self.now.lines
    c.note_event.new.self c.args.event.now c.in_ok-open.ensures.opened c.in-Some.is c.in_ok-carry_out.ensures.after
    (c.note_event.ensures ∙ ap (with_event c.args.event.now.action) c.in_ok-open.ensures.lines))
