-- Each pageblock that is not marked is noted.
use Rattle.zp_area.specs.Claims.{IsClaimed}
use Rattle.zp_area.proofs.noting.look_at_marked.Given as goal

abbrev pub invariant-marked : goal.invariant-marked
invariant-marked l = IsClaimed l.blocks.largest l.blocks.tree l.blocks.kinds.items l.noted.claims l.noted.stale.marks

abbrev pub decreases-marked : goal.decreases-marked
decreases-marked l = l.noted.stale.waiting
