use Rattle.std.proofs.Common.{◌+◌, ◌*◌, length}
use Rattle.zp_office.proofs.workers.+row.Given as goal

abbrev pub decreases-run_row : goal.decreases-run_row
decreases-run_row g l = 4 * length l.desks.now

abbrev pub decreases-run_beside : goal.decreases-run_beside
decreases-run_beside g l = 4 * length l.rest.now + 3

abbrev pub decreases-run_beside-back : goal.decreases-run_beside-back
decreases-run_beside-back g l = 4 * length l.rest.now + 1
