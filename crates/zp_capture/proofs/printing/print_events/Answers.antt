use Rattle.std.proofs.Common.{refl, ap, subst, ◌∙◌}
use Rattle.zp_capture.specs.declared.summary.Summary.{Summary}
use Rattle.zp_capture.specs.Summaries.{IsSummaryOfAll}
use Rattle.zp_capture.proofs.Summing.{summed}
use Rattle.zp_capture.proofs.printing.print_events.Goals as goal

pub returns : goal.returns
returns g c =
    let summary : Summary = record { lines = c.read.new.self.lines; counts = c.counts_of.result } in
    subst (λ had. IsSummaryOfAll c.args.options.now had summary) (ap g.R.Reader.remaining c.in_ok-lines.ensures.reader)
    (summed (λ w. w.options.now) (λ w. w.capture) c.args.options.now.at_broken c.args.options.now _ _ _
    (record { onlooker = c.new-run.result.onlooker; kernel = c.new-run.result.kernel; lines = c.new-run.result.lines })
    (record { onlooker = c.read.new.self.onlooker; kernel = c.read.new.self.kernel; lines = c.read.new.self.lines })
    summary
    (ap (λ w. w.options.now) c.new-run.ensures.onlooker ∙ c.new-2.ensures.options)
    (ap (λ w. w.capture) c.new-run.ensures.onlooker ∙ c.new-2.ensures.told)
    c.new-run.ensures.kernel c.new-run.ensures.lines c.in_ok-lines.ensures.window refl c.in_default.ensures.run c.counts_of.ensures refl)
