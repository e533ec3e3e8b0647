use Rattle.zp_view.proofs.Least.{best_found}
use Rattle.zp_view.proofs.ways.least_used_run.Goals as goal

pub returns-clause-least : goal.returns-clause-least
returns-clause-least c =
    best_found c.args.row.now c.args.order c.runs.number c.in_ok-place.place c.in_ok-place.field-0-1 c.pages-pages.result c.runs.best c.pages-pages.ensures.pages c.runs.auto.number-end c.runs-test.false c.in_ok-place.was c.runs.invariant
