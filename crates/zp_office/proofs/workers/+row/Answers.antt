use Rattle.std.proofs.Common.{rules, subst}
use Rattle.zp_office.specs.Desks.{IsReady, IsWorked}
use Rattle.zp_office.specs.Runs.{IsRun}
use Rattle.zp_shared.proofs.Readers.{kept_same}
use Rattle.zp_office.proofs.Running.{rows_kept, rows_kept_same, all_front, all_back, none_ran, one_more_ran}
use Rattle.zp_office.proofs.workers.+row.Goals as goal

pub run_row-returns-in_default-clause-readers : goal.run_row-returns-in_default-clause-readers
run_row-returns-in_default-clause-readers g t c = rows_kept _ _ _ _ c.requires.readers

pub run_row-run_beside-requires-clause-first : goal.run_row-run_beside-requires-clause-first
run_row-run_beside-requires-clause-first g t c κs within =
    all_front (IsReady g.J.Naming.zones) _ _ _ c.requires.ready c.in-Some.ensures.cases.0

pub run_row-run_beside-requires-clause-rest : goal.run_row-run_beside-requires-clause-rest
run_row-run_beside-requires-clause-rest g t c κs within =
    all_back (IsReady g.J.Naming.zones) _ _ _ c.requires.ready c.in-Some.ensures.cases.0

pub run_beside-returns-in-None-clause-ran : goal.run_beside-returns-in-None-clause-ran
run_beside-returns-in-None-clause-ran g t c = none_ran _ _ _ _ (search rules) (search rules)

pub run_beside-returns-in-None-clause-mine : goal.run_beside-returns-in-None-clause-mine
run_beside-returns-in-None-clause-mine g t c = kept_same _ _ _ _ (search rules) c.requires.mine

pub run_beside-returns-in-None-clause-others : goal.run_beside-returns-in-None-clause-others
run_beside-returns-in-None-clause-others g t c = rows_kept_same _ _ _ _ _ (search rules) c.requires.others

pub run_beside-returns-in-Some-clause-ran : goal.run_beside-returns-in-Some-clause-ran
run_beside-returns-in-Some-clause-ran g t c =
    one_more_ran c.in-Some.ran c.args.first.now c.first-1.given.0 c.args.rest.now c.rest-1.given.0
    (subst (IsWorked c.args.first.now) (search rules) c.in-Some.ensures.both.0.met.1.0)
    (subst (IsRun c.in-Some.ran c.args.rest.now) (search rules) c.in-Some.ensures.both.1.met.1.0)
