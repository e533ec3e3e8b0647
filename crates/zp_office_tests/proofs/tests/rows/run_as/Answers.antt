use Rattle.zp_shared.proofs.Readers.{rows_fit}
use Rattle.zp_office_tests.proofs.tests.rows.run_as.Goals as goal

pub close_zones-closed-requires-clause-readers : goal.close_zones-closed-requires-clause-readers
close_zones-closed-requires-clause-readers g c = rows_fit g.J.Naming.zones g.J.Naming.boards _ _ c.run_row.ensures
