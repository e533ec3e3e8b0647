use Rattle.zp_zone.specs.Seats.{IsSeatOf}
use Rattle.zp_zone_tests.proofs.tests.free_below_high.Given as goal

abbrev pub invariant-pages : goal.invariant-pages
invariant-pages l = IsSeatOf l.zone l.seat
