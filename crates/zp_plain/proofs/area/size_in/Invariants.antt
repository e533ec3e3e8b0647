use Rattle.std.proofs.Common.{◌≡◌, ◌≤◌, ◌+◌, ◌-◌}
use Rattle.std.specs.List.{range_with_len, count_by}
use Rattle.zp_model.specs.Block.{has}
use Rattle.zp_model.specs.Area.{size_in}
use Rattle.zp_plain.proofs.area.size_in.Given as goal

-- the pages counted, with those from the index on, are those of the pageblock
abbrev pub invariant-pages : goal.invariant-pages
invariant-pages l = record {
  within : l.pages ≤ l.i - l.first;
  counted : l.pages + count_by (λ i. has l.set i) (range_with_len l.i (l.i-end - l.i)) ≡ size_in l.fn.largest l.set l.fn.pageblock;
}
