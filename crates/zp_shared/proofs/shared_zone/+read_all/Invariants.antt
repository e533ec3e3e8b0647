use Rattle.std.proofs.Common.{length}
use Rattle.zp_shared.proofs.shared_zone.+read_all.Given as goal

abbrev pub decreases-read_all : goal.decreases-read_all
decreases-read_all g l = length l.readers.now
