use Rattle.std.proofs.Common.{rules}
use Rattle.zp_ring.proofs.Steps.{begins}
use Rattle.zp_ring.proofs.ring.Ring.new.Goals as goal

pub of_words-requires : goal.of_words-requires
of_words-requires g c = begins g.row.W g.row.S c.deref.result.now (search rules) (search rules)
