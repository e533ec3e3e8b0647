use Rattle.zp_office_tests.proofs.tests.keepers.run_without_journal.Goals as goal

pub run_over-requires-clause-ready : goal.run_over-requires-clause-ready
run_over-requires-clause-ready g c κs within = rw c.in-Ok.ensures.zone c.in_ok-zone.ensures.ready
