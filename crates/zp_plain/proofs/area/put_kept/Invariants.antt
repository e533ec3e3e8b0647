use Rattle.std.proofs.Common.{◌≡◌, ◌++◌, drop}
use Rattle.std.specs.List.{filter}
use Rattle.zp_model.specs.Area.{belongs}
use Rattle.zp_plain.proofs.area.put_kept.Given as goal

-- what is new, with the old heads from the index on that still belong, is all that is to stand there
abbrev pub invariant-kept : goal.invariant-kept
invariant-kept l = l.new ++ filter (belongs l.largest l.free l.kinds l.list) (drop l.head-index l.old) ≡ l.fn.new ++ filter (belongs l.largest l.free l.kinds l.list) l.old
