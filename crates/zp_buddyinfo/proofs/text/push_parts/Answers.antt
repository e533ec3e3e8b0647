use Rattle.zp_buddyinfo.proofs.Parts.{part_more}
use Rattle.zp_buddyinfo.proofs.text.push_parts.Goals as goal

pub loop-part-preserved : goal.loop-part-preserved
loop-part-preserved c = part_more _ _ _ _ _ _ c.loop-part-test.true c.loop-part.invariant c.in_ok-push_str.ensures.bytes
