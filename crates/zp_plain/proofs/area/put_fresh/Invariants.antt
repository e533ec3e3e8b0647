use Rattle.std.proofs.Common.{◌≡◌, ◌≤◌, ◌&&◌, not, ◌++◌, length}
use Rattle.std.specs.List.{filter}
use Rattle.zp_model.specs.Rows.{stands_in}
use Rattle.zp_model.specs.Area.{falling, belongs}
use Rattle.zp_plain.proofs.area.put_fresh.Given as goal

-- what is new, with the fresh heads below `left`, is all fresh heads
abbrev pub invariant-fresh : goal.invariant-fresh
invariant-fresh l = record {
  within : l.left ≤ length l.free;
  fresh :
      l.new ++ filter (λ h. belongs l.largest l.free l.kinds l.list h && not (stands_in h l.old)) (falling l.left)
      ≡ filter (λ h. belongs l.largest l.free l.kinds l.list h && not (stands_in h l.old)) (falling (length l.free));
}

abbrev pub decreases-fresh : goal.decreases-fresh
decreases-fresh l = l.left
