use Rattle.std.proofs.Common.{◌≡◌, ◌≤◌, ◌+◌, ◌-◌, ◌&&◌, not, length}
use Rattle.std.specs.List.{range_with_len, count_by}
use Rattle.zp_model.specs.Block.{has, size}
use Rattle.zp_model.specs.Area.{available, is_isolated}
use Rattle.zp_plain.proofs.area.available_size.Given as goal

-- the pages counted, with those from the index on, are all
abbrev pub invariant-pages : goal.invariant-pages
invariant-pages l = record {
  within : l.pages ≤ l.i;
  counted : l.pages + count_by (λ h. has l.set h && not (is_isolated l.largest l.kinds h)) (range_with_len l.i (length l.set - l.i)) ≡ size (available l.largest l.kinds l.set);
}
