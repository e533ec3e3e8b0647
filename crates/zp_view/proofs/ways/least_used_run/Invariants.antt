use Rattle.zp_view.proofs.Least.{IsBest}
use Rattle.zp_view.proofs.ways.least_used_run.Given as goal

-- the best of the runs so far
abbrev pub invariant-runs : goal.invariant-runs
invariant-runs l = IsBest l.row l.pages l.number l.best
