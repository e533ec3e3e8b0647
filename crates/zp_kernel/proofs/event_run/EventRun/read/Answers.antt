use Rattle.zp_kernel.proofs.RunsOfLines.{all_run, run_till}
use Rattle.zp_kernel.proofs.event_run.EventRun.read.Goals as goal

pub returns-clause-run : goal.returns-clause-run
returns-clause-run g c =
    all_run (λ run. record { onlooker = run.onlooker; kernel = run.kernel; lines = run.lines }) g.O.Onlooker.hears g.O.Onlooker.opens c.args.at_broken _ _ c.read_lines.result c.args.self.now c.read_lines.new.sink
    c.read_lines.ensures.taken

pub returns-clause-until : goal.returns-clause-until
returns-clause-until g c =
    run_till (λ run. record { onlooker = run.onlooker; kernel = run.kernel; lines = run.lines }) g.O.Onlooker.hears g.O.Onlooker.opens c.args.at_broken _ _ _ c.read_lines.result c.args.self.now c.read_lines.new.sink
    c.read_lines.ensures.stopped
