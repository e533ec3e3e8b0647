use Rattle.zp_kernel.proofs.Steps.{passes}
use Rattle.zp_kernel.proofs.event_run.EventRunLineSink.other.Goals as goal

pub returns-clause-passed : goal.returns-clause-passed
returns-clause-passed g c =
    passes g.O.Onlooker.hears g.O.Onlooker.opens c.other.result c.args.self.now.onlooker c.other.new.self c.args.self.now.kernel c.args.self.now.lines c.args.line.now c.remark_of.result c.remark_of.ensures
    c.other.ensures.heard c.note_other.new.self c.note_other.ensures
