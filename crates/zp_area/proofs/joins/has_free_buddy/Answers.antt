use Rattle.std.proofs.Common.{arith}
use Rattle.std.proofs.lemmas.Bool.{both_ways}
use Rattle.zp_area.proofs.Growing.{buddy_unique}
use Rattle.zp_area.proofs.joins.has_free_buddy.Goals as goal

pub returns-then-number-clause-some : goal.returns-then-number-clause-some
returns-then-number-clause-some c taken = (c.buddy.result, _, omega arith, c.buddy.ensures, c.is_free.ensures.0 taken)

pub returns-then-number-clause-none : goal.returns-then-number-clause-none
returns-then-number-clause-none c taken below e d y free = both_ways c.is_free.result taken (c.is_free.ensures.1 (rw (buddy_unique _ _ _ _ _ _ c.buddy.ensures y) free))
